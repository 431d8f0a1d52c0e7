use Rattle.ir_print.specs.Instructions.{inst_pieces}
use Rattle.ir_names.proofs.PutLemmas.{puts-then}
use Rattle.ir_print.proofs.instructions.put_call.Goals as goal

pub returns : goal.returns
unfolding inst_pieces
returns g c = puts-then c.put_sets.ensures (puts-then c.put.ensures (puts-then c.put_ty.ensures (puts-then c.put-2.ensures (puts-then c.put_callee.ensures (puts-then c.put-3.ensures (puts-then (rw c.items.ensures at c.put_args.ensures) c.put-4.ensures))))))
