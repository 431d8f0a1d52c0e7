use Rattle.ir_names.proofs.PutLemmas.{puts-then}
use Rattle.ir_names.proofs.names.put_global.Goals as goal

pub returns : goal.returns
returns g c = puts-then c.put.ensures c.put_name.ensures
