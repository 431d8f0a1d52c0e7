use Rattle.std.proofs.Common.{◌≡◌, replicate}
use Rattle.bit_sets.proofs.set.no_bits.Given as goal

abbrev pub invariant-loop-word : goal.invariant-loop-word
invariant-loop-word l = l.words.items ≡ replicate l._word 0
