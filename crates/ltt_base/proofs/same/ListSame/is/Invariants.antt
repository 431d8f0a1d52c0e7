use Rattle.std.proofs.Common.{◌≡◌, take}
use Rattle.ltt_base.proofs.same.ListSame.is.Given as goal

abbrev pub invariant-loop-at : goal.invariant-loop-at
invariant-loop-at g l = take l.at l.ones ≡ take l.at l.others
