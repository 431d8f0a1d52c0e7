use Rattle.bit_sets.specs.BitSet.{AreOffsets}
use Rattle.told_texts.proofs.sets.offsets.Given as goal

abbrev pub invariant-loop-word : goal.invariant-loop-word
invariant-loop-word l = AreOffsets l.offsets.items
