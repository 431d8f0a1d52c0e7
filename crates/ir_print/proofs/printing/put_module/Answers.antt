use Rattle.ir_names.proofs.PutLemmas.{puts-then}
use Rattle.ir_print.proofs.printing.put_module.Goals as goal

pub returns : goal.returns
returns g c = puts-then (puts-then (puts-then (puts-then (rw c.items.ensures at c.put_items.ensures) (rw c.items-2.ensures at c.put_items-2.ensures)) c.put_intrinsics.ensures) (rw c.items-3.ensures at c.put_items-3.ensures)) (rw c.items-4.ensures at c.put_items-4.ensures)
