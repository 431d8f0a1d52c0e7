use Rattle.reprinted_outputs.proofs.OutputLaws.{example_has_output}
use Rattle.reprinted_outputs.proofs.laws.example_has_output.Goals as goal

pub returns : goal.returns
returns c = example_has_output
