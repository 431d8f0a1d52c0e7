use Rattle.std.specs.Prelude.{All}
use Rattle.bit_sets.specs.BitSet.{IsSet}
use Rattle.told_texts.proofs.sets.sets_of.Given as goal

abbrev pub invariant-loop-line : goal.invariant-loop-line
invariant-loop-line l = All IsSet l.sets.items
