use Rattle.std.proofs.Common.{◌≡◌, ◌++◌, drop, map}
use Rattle.ir_memories.specs.Numeric.{named_goal}
use Rattle.ir_memories.proofs.placing.entries_of.Given as goal

abbrev pub invariant-loop-name : goal.invariant-loop-name
invariant-loop-name l =
    l.goals ++ map (λ name. named_goal name 0 l.functions) (drop l.name-index l.names)
    ≡ map (λ name. named_goal name 0 l.functions) l.names
