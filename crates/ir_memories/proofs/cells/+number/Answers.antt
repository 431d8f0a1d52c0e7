use Rattle.ir_memories.proofs.CellLemmas.{high_fits, rest_short}
use Rattle.ir_memories.proofs.cells.+number.Goals as goal

pub joined-requires : goal.joined-requires
joined-requires t c = high_fits _ c.in_ok-high-in-Byte.high (rest_short c.args.cells.now c.requires) c.in_ok-high-in-Byte.ensures.below
