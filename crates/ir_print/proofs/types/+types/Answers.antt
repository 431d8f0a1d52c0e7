use Rattle.std.proofs.Common.{sym}
use Rattle.ir_print.specs.Types.{ty_text}
use Rattle.ir_names.proofs.PutLemmas.{puts-then}
use Rattle.ir_print.proofs.ListLemmas.{next-comma}
use Rattle.ir_print.proofs.types.+types.Goals as goal

pub put_array-returns : goal.put_array-returns
put_array-returns g t c = puts-then (puts-then (puts-then (puts-then c.put.ensures c.put_decimal.ensures) c.put-2.ensures) c.put_ty.ensures) c.put-3.ensures

pub put_members-returns : goal.put_members-returns
put_members-returns g t c = puts-then (puts-then c.put.ensures c.put_types.ensures) c.put-2.ensures

pub put_types-loop-at-preserved : goal.put_types-loop-at-preserved
put_types-loop-at-preserved g t c = let is = c.index-types-at.is in
    next-comma ty_text c.args.types.now c.loop-at.at c.index-types-at.result c.loop-at-test.true c.loop-at.invariant
    (puts-then c.put_comma.ensures (rw (sym is) c.put_ty.ensures))
