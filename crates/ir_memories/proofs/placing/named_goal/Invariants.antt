use Rattle.std.proofs.Common.{◌≡◌, drop}
use Rattle.ir_memories.specs.Numeric.{named_goal}
use Rattle.ir_memories.proofs.placing.named_goal.Given as goal

abbrev pub invariant-loop-index : goal.invariant-loop-index
invariant-loop-index l = named_goal l.name l.index (drop l.index l.functions) ≡ named_goal l.name 0 l.functions
