use Rattle.bit_sets.proofs.LaneLaws.{lanes-hold}
use Rattle.bit_sets.proofs.SpotLaws.{arrays-have-spots}
use Rattle.bit_sets.proofs.laws.lanes_hold.Goals as goal

pub returns : goal.returns
returns c = record { hold = lanes-hold; spots = arrays-have-spots }
