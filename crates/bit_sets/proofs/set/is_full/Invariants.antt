use Rattle.std.proofs.Common.{◌≡◌, true}
use Rattle.bit_sets.specs.BitSet.{holds_below, bit_in}
use Rattle.bit_sets.proofs.set.is_full.Given as goal

abbrev pub invariant-loop-bit : goal.invariant-loop-bit
invariant-loop-bit l = holds_below (bit_in l.words) l.bit ≡ true
