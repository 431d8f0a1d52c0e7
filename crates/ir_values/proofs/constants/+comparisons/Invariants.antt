use Rattle.std.proofs.Common.{◌≡◌, take}
use Rattle.ir_values.proofs.constants.+comparisons.Given as goal

abbrev pub invariant-same_consts-loop-at : goal.invariant-same_consts-loop-at
invariant-same_consts-loop-at l = take l.at l.ones ≡ take l.at l.others

abbrev pub invariant-same_operands-loop-at : goal.invariant-same_operands-loop-at
invariant-same_operands-loop-at l = take l.at l.ones ≡ take l.at l.others
