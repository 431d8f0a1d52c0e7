use Rattle.std.proofs.Common.{◌≡◌, drop}
use Rattle.ir_memories.specs.Numeric.{lead_of}
use Rattle.ir_memories.proofs.numeric.lead_of.Given as goal

abbrev pub invariant-loop-row : goal.invariant-loop-row
invariant-loop-row l = lead_of l.a (drop l.row-index l.rows) ≡ lead_of l.a l.rows
