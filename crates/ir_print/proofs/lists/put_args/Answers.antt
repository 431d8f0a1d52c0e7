use Rattle.std.proofs.Common.{sym}
use Rattle.ir_names.proofs.PutLemmas.{puts-then}
use Rattle.ir_print.specs.Constants.{typed_text}
use Rattle.ir_print.proofs.ListLemmas.{next-behind}
use Rattle.ir_print.proofs.lists.put_args.Goals as goal

pub loop-at-preserved : goal.loop-at-preserved
loop-at-preserved g c = let is = c.index-args-at.is in next-behind (typed_text) c.args.types.now c.args.args.now c.loop-at.at c.index-args-at.result c.loop-at-test.true c.loop-at.invariant (puts-then c.put_comma.ensures (rw (sym is) c.put_arg.ensures))
