use Rattle.ir_print.specs.Instructions.{inst_pieces}
use Rattle.ir_names.proofs.PutLemmas.{puts-then}
use Rattle.ir_print.proofs.instructions.put_cond_br.Goals as goal

pub returns : goal.returns
unfolding inst_pieces
returns g c = puts-then c.put.ensures (puts-then c.put_typed.ensures (puts-then c.put-2.ensures (puts-then c.put_to.ensures (puts-then c.put-3.ensures c.put_to-2.ensures))))
