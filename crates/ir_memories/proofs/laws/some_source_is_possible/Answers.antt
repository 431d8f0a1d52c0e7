use Rattle.ir_memories.proofs.TestLaws.{example}
use Rattle.ir_memories.proofs.laws.some_source_is_possible.Goals as goal

pub returns : goal.returns
returns c = example
