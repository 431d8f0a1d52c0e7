use Rattle.ir_meaning.proofs.RegisterLemmas.{get-put_same, get-put_other}
use Rattle.ir_meaning.proofs.laws.registers_hold_what_was_put.Goals as goal

pub returns-clause-same : goal.returns-clause-same
returns-clause-same g c = get-put_same

pub returns-clause-other : goal.returns-clause-other
returns-clause-other g c = get-put_other
