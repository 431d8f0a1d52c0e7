use Rattle.ir_names.proofs.PutLemmas.{puts-then}
use Rattle.ir_print.proofs.intrinsics.put_intrinsics.Goals as goal

pub returns : goal.returns
returns g c = puts-then (puts-then c.put_called.ensures c.put_called-2.ensures) c.put_called-3.ensures
