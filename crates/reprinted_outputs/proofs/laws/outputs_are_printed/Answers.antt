use Rattle.reprinted_outputs.proofs.OutputLaws.{outputs_are_printed}
use Rattle.reprinted_outputs.proofs.laws.outputs_are_printed.Goals as goal

pub returns : goal.returns
returns c = outputs_are_printed
