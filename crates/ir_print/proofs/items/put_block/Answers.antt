use Rattle.ir_print.specs.Items.{block_text}
use Rattle.ir_names.proofs.PutLemmas.{puts-then}
use Rattle.ir_print.proofs.items.put_block.Goals as goal

pub returns : goal.returns
unfolding block_text
returns g c = puts-then (puts-then (rw c.bytes.ensures at c.put_name.ensures) c.put.ensures) (rw c.items.ensures at c.put_insts.ensures)
