use Rattle.std.proofs.Common.{◌≡◌, drop}
use Rattle.check_bodies.specs.Names.{entry_label}
use Rattle.check_bodies.proofs.index.entry_label.Given as goal

abbrev pub invariant-loop-defined : goal.invariant-loop-defined
invariant-loop-defined l = entry_label (drop l.defined-index l.names) ≡ entry_label l.names
