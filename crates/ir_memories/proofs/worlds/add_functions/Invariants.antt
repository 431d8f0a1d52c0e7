use Rattle.std.proofs.Common.{◌≡◌, ◌++◌, drop, map}
use Rattle.ir_memories.specs.Worlds.{function_space}
use Rattle.ir_memories.proofs.worlds.add_functions.Given as goal

abbrev pub invariant-loop-function : goal.invariant-loop-function
invariant-loop-function l =
    l.spaces ++ map function_space (drop l._function-index l.functions) ≡ l.initial.spaces ++ map function_space l.functions
