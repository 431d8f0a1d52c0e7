use Rattle.clean_outputs.proofs.ExampleLaws.{example_is_output}
use Rattle.clean_outputs.proofs.laws.example_is_output.Goals as goal

pub returns : goal.returns
returns c = example_is_output
