use Rattle.std.proofs.Common.{◌-◌, length, drop}
use Rattle.unit_grammar.specs.Seeing.{tokens}
use Rattle.ir_text.specs.Reads.{ReadsTo}
use Rattle.ir_text.proofs.reading.units.Given as goal

abbrev pub invariant-loop-at : goal.invariant-loop-at
invariant-loop-at l = ReadsTo (tokens l.input) l.units (drop l.at (tokens l.input))

abbrev pub decreases-loop-at : goal.decreases-loop-at
decreases-loop-at l = length (tokens l.input) - l.at
