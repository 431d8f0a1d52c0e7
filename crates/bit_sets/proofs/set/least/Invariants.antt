use Rattle.std.proofs.Common.{◌≡◌, min, fold, take, get_or}
use Rattle.bit_sets.proofs.set.least.Given as goal

abbrev pub invariant-loop-offset : goal.invariant-loop-offset
invariant-loop-offset l = l.low ≡ fold min (get_or l.offsets 0 0) (take l.offset-index l.offsets)
