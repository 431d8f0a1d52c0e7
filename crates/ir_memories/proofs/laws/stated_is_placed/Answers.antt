use Rattle.ir_memories.proofs.StatedLaws.{stated_law}
use Rattle.ir_memories.proofs.laws.stated_is_placed.Goals as goal

pub returns : goal.returns
returns c = stated_law
