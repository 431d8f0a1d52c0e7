use Rattle.ir_meaning.proofs.CallRunLemmas as calls
use Rattle.ir_meaning.proofs.CallExample as example
use Rattle.ir_meaning.proofs.laws.calls_come_back.Goals as goal

pub returns-clause-back : goal.returns-clause-back
returns-clause-back g c = calls.calls_come_back g.M.Memory.model

pub returns-clause-quiet : goal.returns-clause-quiet
returns-clause-quiet g c = calls.calls_are_quiet g.M.Memory.model

pub returns-clause-some : goal.returns-clause-some
returns-clause-some g c = example.some_calls_come_back g.M.Memory.model
