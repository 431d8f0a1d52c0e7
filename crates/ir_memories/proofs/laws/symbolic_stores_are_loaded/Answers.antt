use Rattle.ir_memories.proofs.StoreLaws.{symbolic_stores}
use Rattle.ir_memories.proofs.laws.symbolic_stores_are_loaded.Goals as goal

pub returns : goal.returns
returns c = symbolic_stores
