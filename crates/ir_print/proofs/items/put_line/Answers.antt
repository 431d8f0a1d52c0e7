use Rattle.ir_print.specs.Items.{line_text}
use Rattle.ir_names.proofs.PutLemmas.{puts-then}
use Rattle.ir_print.proofs.items.put_line.Goals as goal

pub returns : goal.returns
unfolding line_text
returns g c = puts-then (puts-then c.put.ensures c.put_inst.ensures) c.put-2.ensures
