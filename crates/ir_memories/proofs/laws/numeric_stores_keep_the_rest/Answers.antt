use Rattle.ir_memories.proofs.NumberKeepLaws.{numeric_keeps}
use Rattle.ir_memories.proofs.laws.numeric_stores_keep_the_rest.Goals as goal

pub returns : goal.returns
returns c = numeric_keeps
