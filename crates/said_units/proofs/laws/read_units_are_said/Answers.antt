use Rattle.said_units.proofs.ReadLaws.{read_units_are_said}
use Rattle.said_units.proofs.laws.read_units_are_said.Goals as goal

pub returns : goal.returns
returns c = read_units_are_said
