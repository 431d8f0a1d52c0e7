use Rattle.std.proofs.Common.{◌≡◌}
use Rattle.ir_names.proofs.PutLemmas.{puts-then}
use Rattle.ir_print.proofs.instructions.put_coded_trap.Goals as goal

pub returns : goal.returns
returns g c = let e : c.from.result ≡ c.args.code = cc in puts-then (puts-then c.put.ensures (rw e at c.put_integer.ensures)) c.put-2.ensures
