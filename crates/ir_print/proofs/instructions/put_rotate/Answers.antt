use Rattle.std.proofs.Common.{◌≡◌}
use Rattle.ir_print.specs.Instructions.{inst_pieces}
use Rattle.ir_names.proofs.PutLemmas.{puts-then}
use Rattle.ir_print.proofs.instructions.put_rotate.Goals as goal

pub returns : goal.returns
unfolding inst_pieces
returns g c = let e : c.from.result ≡ c.args.by = cc in puts-then c.put_local.ensures (puts-then c.put.ensures (puts-then c.put_typed.ensures (puts-then c.put-2.ensures (puts-then c.put_typed-2.ensures (puts-then c.put-3.ensures (puts-then (rw e at c.put_decimal.ensures) c.put-4.ensures))))))
