use Rattle.ir_names.proofs.PutLemmas.{puts-then}
use Rattle.ir_print.proofs.items.put_param_of.Goals as goal

pub returns : goal.returns
returns g c = puts-then (puts-then c.put_ty.ensures c.put.ensures) (rw c.bytes.ensures at c.put_local.ensures)
