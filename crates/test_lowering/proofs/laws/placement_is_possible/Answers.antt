use Rattle.test_lowering.proofs.PlacementLaws.{possible}
use Rattle.test_lowering.proofs.laws.placement_is_possible.Goals as goal

pub returns : goal.returns
returns c = possible
