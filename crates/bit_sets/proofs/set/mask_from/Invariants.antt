use Rattle.std.proofs.Common.{◌≡◌, take}
use Rattle.bit_sets.specs.BitSet.{mask_from}
use Rattle.bit_sets.proofs.set.mask_from.Given as goal

abbrev pub invariant-loop-offset : goal.invariant-loop-offset
invariant-loop-offset l = l.mask ≡ mask_from l.low (take l.offset-index l.offsets)
