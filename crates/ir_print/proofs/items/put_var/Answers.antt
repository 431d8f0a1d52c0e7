use Rattle.ir_print.specs.Items.{var_pieces}
use Rattle.ir_names.proofs.PutLemmas.{puts-then}
use Rattle.ir_print.proofs.items.put_var.Goals as goal

pub returns : goal.returns
unfolding var_pieces
returns g c = puts-then (rw c.bytes.ensures at c.put_global.ensures) (puts-then c.put.ensures (puts-then c.put_linkage.ensures (puts-then c.put_kind.ensures (puts-then c.put_content.ensures c.put_align.ensures))))
