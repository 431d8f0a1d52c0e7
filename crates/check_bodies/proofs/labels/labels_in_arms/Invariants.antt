use Rattle.std.proofs.Common.{◌≡◌, ◌++◌, drop, map}
use Rattle.check_bodies.proofs.labels.labels_in_arms.Given as goal

abbrev pub invariant-loop-arm : goal.invariant-loop-arm
invariant-loop-arm l = l.labels ++ map (λ arm. arm.1) (drop l.arm-index l.arms) ≡ map (λ arm. arm.1) l.arms
