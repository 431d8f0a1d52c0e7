use Rattle.reprinted_outputs.proofs.OutputLaws.{outputs_are_same_again}
use Rattle.reprinted_outputs.proofs.laws.outputs_are_same_again.Goals as goal

pub returns : goal.returns
returns c = outputs_are_same_again
