use Rattle.std.proofs.Common.{◌≡◌, drop}
use Rattle.ir_memories.specs.Numeric.{base_of}
use Rattle.ir_memories.proofs.numeric.base_of.Given as goal

abbrev pub invariant-loop-row : goal.invariant-loop-row
invariant-loop-row l = base_of l.name (drop l.row-index l.rows) ≡ base_of l.name l.rows
