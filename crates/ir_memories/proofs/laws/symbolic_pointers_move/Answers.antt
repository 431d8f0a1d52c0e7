use Rattle.ir_memories.proofs.MoveLaws.{symbolic_moves}
use Rattle.ir_memories.proofs.laws.symbolic_pointers_move.Goals as goal

pub returns : goal.returns
returns c = symbolic_moves
