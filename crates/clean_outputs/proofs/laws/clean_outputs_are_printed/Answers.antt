use Rattle.clean_outputs.proofs.OutputLaws.{clean_outputs_are_printed}
use Rattle.clean_outputs.proofs.laws.clean_outputs_are_printed.Goals as goal

pub returns : goal.returns
returns c = clean_outputs_are_printed
