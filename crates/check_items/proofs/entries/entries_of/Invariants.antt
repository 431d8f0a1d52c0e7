use Rattle.std.proofs.Common.{◌≡◌, ◌++◌, drop}
use Rattle.std.specs.Prelude.{flat_map}
use Rattle.check_items.specs.Entries.{entry_of}
use Rattle.check_items.proofs.entries.entries_of.Given as goal

abbrev pub invariant-loop-attach : goal.invariant-loop-attach
invariant-loop-attach l =
    l.entries ++ flat_map (entry_of l.context.units l.file) (drop l.attach-index l.attached) ≡ flat_map (entry_of l.context.units l.file) l.attached
