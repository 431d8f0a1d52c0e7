use Rattle.std.proofs.Common.{arith}
use Rattle.global_layout.proofs.PadLemmas.{slot-reaches}
use Rattle.global_layout.proofs.slots.slot_size.Goals as goal

pub returns-then-max-gt-MOST_BYTES-clause-size : goal.returns-then-max-gt-MOST_BYTES-clause-size
returns-then-max-gt-MOST_BYTES-clause-size c =
    let reached = slot-reaches c.args.shape c.requires in
    omega (arith, reached, c.if-max-gt-MOST_BYTES.true, c.max.ensures, c.max-2.ensures)
