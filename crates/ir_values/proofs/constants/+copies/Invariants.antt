use Rattle.std.proofs.Common.{◌≡◌, take}
use Rattle.ir_values.proofs.constants.+copies.Given as goal

abbrev pub invariant-copied_consts-loop-constant : goal.invariant-copied_consts-loop-constant
invariant-copied_consts-loop-constant l = l.copies ≡ take l.constant-index l.constant-items

abbrev pub invariant-copied_operands-loop-operand : goal.invariant-copied_operands-loop-operand
invariant-copied_operands-loop-operand l = l.copies ≡ take l.operand-index l.operand-items
