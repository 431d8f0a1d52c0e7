use Rattle.std.proofs.Common.{sym}
use Rattle.ir_names.proofs.PutLemmas.{puts-then}
use Rattle.ir_print.specs.Items.{param_text}
use Rattle.ir_print.proofs.ListLemmas.{next-behind}
use Rattle.ir_print.proofs.items.put_params.Goals as goal

pub loop-at-preserved : goal.loop-at-preserved
loop-at-preserved g c = let is = c.index-params-at.is in next-behind (param_text) c.args.types.now c.args.params.now c.loop-at.at c.index-params-at.result c.loop-at-test.true c.loop-at.invariant (puts-then c.put_comma.ensures (rw (sym is) c.put_param.ensures))
