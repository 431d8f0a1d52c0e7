use Rattle.std.proofs.Common.{◌≡◌, ◌++◌, drop}
use Rattle.kept_parts.specs.Arms.{kept_arms}
use Rattle.kept_parts.proofs.arms.kept_arms.Given as goal

abbrev pub invariant-loop-arm : goal.invariant-loop-arm
invariant-loop-arm l = l.kept ++ kept_arms l.types.units l.ty (drop l.arm-index l.arms) ≡ kept_arms l.types.units l.ty l.arms
