use Rattle.std.proofs.Common.{◌≡◌, ◌++◌, ◌-◌}
use Rattle.ir_memories.specs.Cells.{cells_from, cells_in}
use Rattle.ir_memories.proofs.images.of_value.Given as goal

abbrev pub invariant-loop-k : goal.invariant-loop-k
invariant-loop-k l = l.cells ++ cells_from l.v l.k (cells_in l.v - l.k) ≡ cells_from l.v 0 (cells_in l.v)
