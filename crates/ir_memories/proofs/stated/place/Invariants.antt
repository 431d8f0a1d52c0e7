use Rattle.std.proofs.Common.{◌≡◌, ◌++◌, drop}
use Rattle.ir_memories.specs.Stated.{stated_from, end_from}
use Rattle.ir_memories.proofs.stated.place.Given as goal

abbrev pub invariant-loop-room : goal.invariant-loop-room
invariant-loop-room l = record {
  so_far : l.at ++ stated_from l.end (drop l.room-index l.rooms) ≡ stated_from l.base l.rooms;
  ends : end_from l.end (drop l.room-index l.rooms) ≡ end_from l.base l.rooms;
}
