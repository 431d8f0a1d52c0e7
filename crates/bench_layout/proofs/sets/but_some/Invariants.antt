use Rattle.bit_sets.specs.BitSet.{AreOffsets}
use Rattle.bench_layout.proofs.sets.but_some.Given as goal

abbrev pub invariant-loop-offset : goal.invariant-loop-offset
invariant-loop-offset l = AreOffsets l.offsets
