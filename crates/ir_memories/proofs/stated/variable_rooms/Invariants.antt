use Rattle.std.proofs.Common.{◌≡◌, ◌++◌, drop, map}
use Rattle.ir_memories.specs.Placement.{of_variable}
use Rattle.ir_memories.specs.Stated.{room_of}
use Rattle.ir_memories.proofs.stated.variable_rooms.Given as goal

abbrev pub invariant-loop-variable : goal.invariant-loop-variable
invariant-loop-variable l = l.rooms ++ map (λ v. room_of (of_variable v)) (drop l.variable-index l.variables) ≡ map (λ v. room_of (of_variable v)) l.variables
