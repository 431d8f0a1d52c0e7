use Rattle.std.proofs.Common.{◌≡◌, ◌++◌, drop, map}
use Rattle.ir_memories.specs.Placement.{of_table}
use Rattle.ir_memories.specs.Stated.{room_of}
use Rattle.ir_memories.proofs.stated.table_rooms.Given as goal

abbrev pub invariant-loop-table : goal.invariant-loop-table
invariant-loop-table l = l.rooms ++ map (λ t. room_of (of_table t)) (drop l.table-index l.tables) ≡ map (λ t. room_of (of_table t)) l.tables
