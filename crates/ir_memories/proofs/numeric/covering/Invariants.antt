use Rattle.std.proofs.Common.{◌≡◌, drop}
use Rattle.ir_memories.specs.Numeric.{covering}
use Rattle.ir_memories.proofs.numeric.covering.Given as goal

abbrev pub invariant-loop-at : goal.invariant-loop-at
invariant-loop-at l = covering l.a l.at l.rows (drop l.at l.cells) ≡ covering l.a 0 l.rows l.cells
