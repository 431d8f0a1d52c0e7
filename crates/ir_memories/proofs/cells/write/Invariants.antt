use Rattle.std.proofs.Common.{◌≡◌}
use Rattle.ir_memories.specs.Cells.{written}
use Rattle.ir_memories.proofs.cells.write.Given as goal

abbrev pub invariant-loop-k : goal.invariant-loop-k
invariant-loop-k l = l.cells ≡ written l.at l.k l.v 0 l.initial.cells
