use Rattle.simulation.proofs.SimulationLaws.{simulated}
use Rattle.simulation.proofs.laws.lowering_is_simulated.Goals as goal

pub returns : goal.returns
returns c = simulated
