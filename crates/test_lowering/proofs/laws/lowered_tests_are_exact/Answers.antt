use Rattle.test_lowering.proofs.ExactLaws.{exact}
use Rattle.test_lowering.proofs.laws.lowered_tests_are_exact.Goals as goal

pub returns : goal.returns
returns c = exact
