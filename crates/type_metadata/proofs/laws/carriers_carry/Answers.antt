use Rattle.type_metadata.proofs.CarrierLaws.{carriers_law, carriers_once}
use Rattle.type_metadata.proofs.laws.carriers_carry.Goals as goal

pub returns : goal.returns
returns c = record { carry = carriers_law; once = carriers_once }
