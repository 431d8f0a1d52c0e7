use Rattle.ir_meaning.proofs.RunLemmas.{run_sum, run_last, run_ended}
use Rattle.ir_meaning.proofs.laws.runs_add.Goals as goal

pub returns-clause-add : goal.returns-clause-add
returns-clause-add g c = run_sum g.M.Memory.model

pub returns-clause-last : goal.returns-clause-last
returns-clause-last g c = run_last g.M.Memory.model

pub returns-clause-ended : goal.returns-clause-ended
returns-clause-ended g c = run_ended g.M.Memory.model
