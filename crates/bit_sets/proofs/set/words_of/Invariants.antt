use Rattle.std.proofs.Common.{◌≡◌, take}
use Rattle.bit_sets.specs.BitSet.{words_from, bit_of, word_count}
use Rattle.bit_sets.proofs.set.words_of.Given as goal

abbrev pub invariant-loop-offset : goal.invariant-loop-offset
invariant-loop-offset l = l.words.items ≡ words_from (bit_of (take l.offset-index l.offsets) l.low l.align) 0 (word_count l.size_m1)
