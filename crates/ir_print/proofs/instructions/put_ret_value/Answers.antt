use Rattle.ir_names.proofs.PutLemmas.{puts-then}
use Rattle.ir_print.proofs.instructions.put_ret_value.Goals as goal

pub returns : goal.returns
returns g c = puts-then c.put.ensures c.put_typed.ensures
