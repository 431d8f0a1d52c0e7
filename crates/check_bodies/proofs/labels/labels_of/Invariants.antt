use Rattle.std.proofs.Common.{◌≡◌, ◌++◌, drop, map}
use Rattle.check_bodies.specs.Blocks.{block_label}
use Rattle.check_bodies.proofs.labels.labels_of.Given as goal

abbrev pub invariant-loop-mark : goal.invariant-loop-mark
invariant-loop-mark l = l.labels ++ map (block_label l.units) (drop l.mark-index l.marks) ≡ map (block_label l.units) l.marks
