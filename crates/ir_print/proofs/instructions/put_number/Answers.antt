use Rattle.ir_print.specs.Instructions.{inst_pieces}
use Rattle.ir_names.proofs.PutLemmas.{puts-then}
use Rattle.ir_print.proofs.instructions.put_number.Goals as goal

pub returns : goal.returns
unfolding inst_pieces
returns g c = puts-then c.put_local.ensures (puts-then c.put.ensures (puts-then c.put_typed.ensures c.put-2.ensures))
