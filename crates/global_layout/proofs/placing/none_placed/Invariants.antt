use Rattle.std.proofs.Common.{◌≡◌, replicate, None}
use Rattle.global_layout.proofs.placing.none_placed.Given as goal

abbrev pub invariant-loop-object : goal.invariant-loop-object
invariant-loop-object l = l.homes ≡ replicate l._object None
