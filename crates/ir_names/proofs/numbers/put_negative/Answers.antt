use Rattle.ir_names.proofs.PutLemmas.{puts-then}
use Rattle.ir_names.proofs.numbers.put_negative.Goals as goal

pub returns : goal.returns
returns g c = puts-then c.put.ensures c.put_decimal.ensures
