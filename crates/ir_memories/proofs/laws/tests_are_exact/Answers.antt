use Rattle.ir_memories.proofs.TestLaws.{test_law}
use Rattle.ir_memories.proofs.laws.tests_are_exact.Goals as goal

pub returns : goal.returns
returns c = test_law
