use Rattle.std.proofs.Common.{sym}
use Rattle.ir_names.proofs.PutLemmas.{puts-then}
use Rattle.ir_print.specs.Instructions.{arm_text}
use Rattle.ir_print.proofs.ListLemmas.{next-comma}
use Rattle.ir_print.proofs.lists.put_arms.Goals as goal

pub loop-at-preserved : goal.loop-at-preserved
loop-at-preserved g c = let is = c.index-arms-at.is in next-comma (arm_text c.args.ty.now) c.args.arms.now c.loop-at.at c.index-arms-at.result c.loop-at-test.true c.loop-at.invariant (puts-then c.put_comma.ensures (rw (sym is) c.put_arm.ensures))
