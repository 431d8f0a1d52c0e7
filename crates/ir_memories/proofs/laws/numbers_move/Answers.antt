use Rattle.ir_memories.proofs.MoveLaws.{numeric_moves}
use Rattle.ir_memories.proofs.laws.numbers_move.Goals as goal

pub returns : goal.returns
returns c = numeric_moves
