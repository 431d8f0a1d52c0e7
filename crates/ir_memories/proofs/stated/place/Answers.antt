use Rattle.std.proofs.Common.{arith}
use Rattle.ir_memories.proofs.StatedLemmas.{room_fits}
use Rattle.ir_memories.proofs.stated.place.Goals as goal

pub next_multiple_of-start-requires-clause-fits : goal.next_multiple_of-start-requires-clause-fits
next_multiple_of-start-requires-clause-fits c =
    let within = room_fits c.args.rooms.now c.loop-room.room-index c.loop-room.end (record { size = 0; align = 0 }) c.loop-room-test.true in
    let ends = c.loop-room.invariant.ends in
    let last = c.requires.fits in
    omega arith

pub overflow_add-end : goal.overflow_add-end
overflow_add-end c =
    let within = room_fits c.args.rooms.now c.loop-room.room-index c.loop-room.end (record { size = 0; align = 0 }) c.loop-room-test.true in
    let ends = c.loop-room.invariant.ends in
    let last = c.requires.fits in
    let start = c.next_multiple_of-start.ensures.value in
    omega arith
