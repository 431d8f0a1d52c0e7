use Rattle.clean_outputs.proofs.OutputLaws.{outputs_without_named_types_are_same_again}
use Rattle.clean_outputs.proofs.laws.outputs_without_named_types_are_same_again.Goals as goal

pub returns : goal.returns
returns c = outputs_without_named_types_are_same_again
