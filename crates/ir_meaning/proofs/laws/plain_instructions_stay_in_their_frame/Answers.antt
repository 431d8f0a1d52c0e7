use Rattle.ir_meaning.proofs.CallRunLemmas.{stays_in_its_frame}
use Rattle.ir_meaning.proofs.laws.plain_instructions_stay_in_their_frame.Goals as goal

pub returns : goal.returns
returns g c = stays_in_its_frame g.M.Memory.model
