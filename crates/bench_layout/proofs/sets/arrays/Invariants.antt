use Rattle.std.specs.Prelude.{All}
use Rattle.bit_sets.specs.BitSet.{IsSet}
use Rattle.bench_layout.proofs.sets.arrays.Given as goal

abbrev pub invariant-loop-number : goal.invariant-loop-number
invariant-loop-number l = All IsSet l.sets
