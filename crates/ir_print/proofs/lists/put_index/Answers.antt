use Rattle.ir_names.proofs.PutLemmas.{puts-then}
use Rattle.ir_print.proofs.lists.put_index.Goals as goal

pub returns : goal.returns
returns g c = puts-then c.put.ensures c.put_typed.ensures
