use Rattle.ir_names.proofs.PutLemmas.{puts-then}
use Rattle.ir_print.proofs.lists.put_case.Goals as goal

pub returns : goal.returns
returns g c = puts-then (puts-then (puts-then (puts-then c.put_width.ensures c.put.ensures) c.put_integer.ensures) c.put-2.ensures) (rw c.bytes.ensures at c.put_to.ensures)
