use Rattle.std.proofs.Common.{◌≡◌, ◌++◌, drop, map}
use Rattle.ir_memories.specs.Placement.{of_function}
use Rattle.ir_memories.specs.Stated.{room_of, functions_that}
use Rattle.ir_memories.proofs.stated.function_rooms.Given as goal

abbrev pub invariant-loop-function : goal.invariant-loop-function
invariant-loop-function l =
    l.rooms ++ map (λ f. room_of (of_function f)) (functions_that l.external (drop l.function-index l.functions))
    ≡ map (λ f. room_of (of_function f)) (functions_that l.external l.functions)
