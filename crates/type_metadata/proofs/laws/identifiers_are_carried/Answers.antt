use Rattle.type_metadata.proofs.CarrierLaws.{identifiers_law, identifiers_once}
use Rattle.type_metadata.proofs.laws.identifiers_are_carried.Goals as goal

pub returns : goal.returns
returns c = record { carried = identifiers_law; once = identifiers_once }
