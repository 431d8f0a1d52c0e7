use Rattle.std.proofs.Common.{◌≡◌, take}
use Rattle.ir_values.proofs.types.Ty.+copy.Given as goal

abbrev pub invariant-loop-part : goal.invariant-loop-part
invariant-loop-part l = l.copies ≡ take l.part-index l.part-items
