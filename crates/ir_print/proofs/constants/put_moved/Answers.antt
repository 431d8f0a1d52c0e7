use Rattle.ir_names.proofs.PutLemmas.{puts-then}
use Rattle.ir_print.proofs.constants.put_moved.Goals as goal

pub returns : goal.returns
returns g c = puts-then (puts-then (puts-then (puts-then c.put.ensures c.put_global.ensures) c.put-2.ensures) c.put_integer.ensures) c.put-3.ensures
