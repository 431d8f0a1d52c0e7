use Rattle.std.proofs.Common.{◌≡◌, take}
use Rattle.ir_values.proofs.types.TySame.+is.Given as goal

abbrev pub invariant-loop-at : goal.invariant-loop-at
invariant-loop-at l = take l.at l.ones ≡ take l.at l.others
