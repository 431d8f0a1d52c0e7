use Rattle.ir_names.proofs.PutLemmas.{puts-then}
use Rattle.ir_print.proofs.constants.put_register.Goals as goal

pub returns : goal.returns
returns g c = puts-then (puts-then c.put_ty.ensures c.put.ensures) c.put_local.ensures
