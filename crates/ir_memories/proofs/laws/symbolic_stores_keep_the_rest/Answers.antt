use Rattle.ir_memories.proofs.KeepLaws.{symbolic_keeps}
use Rattle.ir_memories.proofs.laws.symbolic_stores_keep_the_rest.Goals as goal

pub returns : goal.returns
returns c = symbolic_keeps
