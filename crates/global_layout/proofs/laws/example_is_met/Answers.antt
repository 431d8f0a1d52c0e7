use Rattle.global_layout.proofs.ExampleLemmas.{example-met}
use Rattle.global_layout.proofs.laws.example_is_met.Goals as goal

pub returns : goal.returns
returns c = example-met
