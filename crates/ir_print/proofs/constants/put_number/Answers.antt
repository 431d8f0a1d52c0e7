use Rattle.ir_names.proofs.PutLemmas.{puts-then}
use Rattle.ir_print.proofs.constants.put_number.Goals as goal

pub returns : goal.returns
returns g c = puts-then (puts-then c.put.ensures c.put_address.ensures) c.put-2.ensures
