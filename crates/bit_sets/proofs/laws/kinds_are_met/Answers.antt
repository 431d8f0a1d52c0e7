use Rattle.bit_sets.proofs.KindExamples.{kinds-met}
use Rattle.bit_sets.proofs.laws.kinds_are_met.Goals as goal

pub returns : goal.returns
returns c = kinds-met
