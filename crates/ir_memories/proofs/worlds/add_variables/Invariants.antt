use Rattle.std.proofs.Common.{◌≡◌, ◌++◌, drop, map}
use Rattle.ir_memories.specs.Worlds.{variable_space}
use Rattle.ir_memories.proofs.worlds.add_variables.Given as goal

abbrev pub invariant-loop-variable : goal.invariant-loop-variable
invariant-loop-variable l =
    l.spaces ++ map (variable_space l.items l.file) (drop l.variable-index l.variables)
    ≡ l.initial.spaces ++ map (variable_space l.items l.file) l.variables
