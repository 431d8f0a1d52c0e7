use Rattle.simulation.proofs.ExampleLaws.{possible}
use Rattle.simulation.proofs.laws.addresses_are_possible.Goals as goal

pub returns : goal.returns
returns c = possible
