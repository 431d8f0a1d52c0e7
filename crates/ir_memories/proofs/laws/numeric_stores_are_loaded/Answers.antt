use Rattle.ir_memories.proofs.NumberStoreLaws.{numeric_stores}
use Rattle.ir_memories.proofs.laws.numeric_stores_are_loaded.Goals as goal

pub returns : goal.returns
returns c = numeric_stores
