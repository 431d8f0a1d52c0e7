use Rattle.ir_print.specs.Items.{table_pieces}
use Rattle.ir_names.proofs.PutLemmas.{puts-then}
use Rattle.ir_print.proofs.items.put_table.Goals as goal

pub returns : goal.returns
unfolding table_pieces
returns g c = puts-then c.put.ensures (puts-then (rw c.bytes.ensures at c.put_global.ensures) (puts-then c.put-2.ensures (puts-then (rw c.items.ensures at c.put_globals.ensures) c.put-3.ensures)))
