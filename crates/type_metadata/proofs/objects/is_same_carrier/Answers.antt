use Rattle.type_metadata.proofs.SameLaws.{carrier_decides}
use Rattle.type_metadata.proofs.objects.is_same_carrier.Goals as goal

pub returns : goal.returns
returns c = carrier_decides _ _ _ c.is.ensures
