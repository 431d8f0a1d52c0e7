use Rattle.std.proofs.Common.{sym}
use Rattle.ir_names.proofs.PutLemmas.{puts-then}
use Rattle.ir_print.specs.Instructions.{case_text}
use Rattle.ir_print.proofs.ListLemmas.{next-space}
use Rattle.ir_print.proofs.lists.put_cases.Goals as goal

pub loop-at-preserved : goal.loop-at-preserved
loop-at-preserved g c = let is = c.index-cases-at.is in next-space (case_text c.args.width) c.args.cases.now c.loop-at.at c.index-cases-at.result c.loop-at-test.true c.loop-at.invariant (puts-then c.put_space.ensures (rw (sym is) c.put_case.ensures))
