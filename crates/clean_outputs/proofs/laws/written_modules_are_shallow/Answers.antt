use Rattle.clean_outputs.proofs.ShallowLemmas.{written_modules_are_shallow}
use Rattle.clean_outputs.proofs.laws.written_modules_are_shallow.Goals as goal

pub returns : goal.returns
returns c = written_modules_are_shallow
