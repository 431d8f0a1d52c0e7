use Rattle.std.proofs.Common.{◌≡◌, drop}
use Rattle.ir_memories.specs.Cells.{are_parts}
use Rattle.ir_memories.proofs.cells.are_parts.Given as goal

abbrev pub invariant-loop-k : goal.invariant-loop-k
invariant-loop-k l = are_parts l.p l.k (drop l.k l.cells) ≡ are_parts l.p 0 l.cells
