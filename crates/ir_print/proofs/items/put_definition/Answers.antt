use Rattle.ir_print.specs.Items.{define_pieces}
use Rattle.ir_names.proofs.PutLemmas.{puts-then}
use Rattle.ir_print.proofs.items.put_definition.Goals as goal

pub returns : goal.returns
unfolding define_pieces
returns g c = puts-then c.put.ensures (puts-then c.put_private.ensures (puts-then c.put_ty.ensures (puts-then c.put-2.ensures (puts-then (rw c.bytes.ensures at c.put_global.ensures) (puts-then c.put-3.ensures (puts-then (rw (c.items.ensures, c.items-2.ensures) at c.put_params.ensures) (puts-then c.put-4.ensures (puts-then (rw c.items-3.ensures at c.put_blocks.ensures) c.put-5.ensures))))))))
