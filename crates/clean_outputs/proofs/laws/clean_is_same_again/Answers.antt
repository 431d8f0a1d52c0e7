use Rattle.clean_outputs.proofs.OutputLaws.{clean_is_same_again}
use Rattle.clean_outputs.proofs.laws.clean_is_same_again.Goals as goal

pub returns : goal.returns
returns c = clean_is_same_again
