use Rattle.ir_print.specs.Instructions.{inst_pieces}
use Rattle.ir_names.proofs.PutLemmas.{puts-then}
use Rattle.ir_print.proofs.instructions.put_br.Goals as goal

pub returns : goal.returns
unfolding inst_pieces
returns g c = puts-then c.put.ensures c.put_to.ensures
