use Rattle.reprinted_outputs.proofs.ReadOutputs.{read_outputs_are_same_again}
use Rattle.reprinted_outputs.proofs.laws.read_outputs_are_same_again.Goals as goal

pub returns : goal.returns
returns c = read_outputs_are_same_again
