use Rattle.std.proofs.Common.{◌≡◌, drop}
use Rattle.check_bodies.specs.Blocks.{are_among}
use Rattle.check_bodies.proofs.labels.are_among.Given as goal

abbrev pub invariant-loop-label : goal.invariant-loop-label
invariant-loop-label l = are_among (drop l.label-index l.labels) l.others ≡ are_among l.labels l.others
