use Rattle.std.proofs.Common.{◌≡◌, max, fold, take}
use Rattle.bit_sets.proofs.set.greatest.Given as goal

abbrev pub invariant-loop-offset : goal.invariant-loop-offset
invariant-loop-offset l = l.high ≡ fold max 0 (take l.offset-index l.offsets)
