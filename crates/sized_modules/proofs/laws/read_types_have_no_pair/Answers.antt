use Rattle.sized_modules.proofs.RunLaws.{read_are_written}
use Rattle.sized_modules.proofs.laws.read_types_have_no_pair.Goals as goal

pub returns : goal.returns
returns c = read_are_written
