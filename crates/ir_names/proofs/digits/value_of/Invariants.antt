use Rattle.std.proofs.Common.{◌≡◌, ◌^◌, min, take}
use Rattle.ir_names.specs.Names as spec
use Rattle.ir_names.proofs.digits.value_of.Given as goal

abbrev pub invariant-loop-digit : goal.invariant-loop-digit
invariant-loop-digit l = l.value ≡ min (spec.value_of (take l.digit-index l.digits)) (2 ^ 64)
