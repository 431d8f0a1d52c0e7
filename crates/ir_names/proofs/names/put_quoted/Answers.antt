use Rattle.ir_names.proofs.PutLemmas.{puts-then}
use Rattle.ir_names.proofs.names.put_quoted.Goals as goal

pub returns : goal.returns
returns g c = puts-then (puts-then c.put.ensures c.put_escapes.ensures) c.put-2.ensures
