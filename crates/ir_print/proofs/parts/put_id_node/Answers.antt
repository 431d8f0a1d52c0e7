use Rattle.ir_names.proofs.PutLemmas.{puts-then}
use Rattle.ir_print.proofs.parts.put_id_node.Goals as goal

pub returns : goal.returns
returns g c = puts-then c.put.ensures c.put_decimal.ensures
