use Rattle.ir_names.proofs.PutLemmas.{puts-then}
use Rattle.ir_print.proofs.parts.put_set.Goals as goal

pub returns : goal.returns
returns g c = puts-then c.put_local.ensures c.put.ensures
