use Rattle.std.proofs.Common.{◌≡◌}
use Rattle.ir_print.specs.Instructions.{inst_pieces}
use Rattle.ir_names.proofs.PutLemmas.{puts-then}
use Rattle.ir_print.proofs.instructions.put_extract.Goals as goal

pub returns : goal.returns
unfolding inst_pieces
returns g c = let e : c.from.result ≡ c.args.part = cc in puts-then c.put_local.ensures (puts-then c.put.ensures (puts-then c.put_pair.ensures (puts-then c.put-2.ensures (puts-then c.put_local-2.ensures (puts-then c.put-3.ensures (rw e at c.put_decimal.ensures))))))
