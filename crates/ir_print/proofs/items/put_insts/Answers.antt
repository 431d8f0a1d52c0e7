use Rattle.std.proofs.Common.{sym}
use Rattle.ir_print.specs.Items.{line_text}
use Rattle.ir_names.proofs.FlatLemmas.{next-flat}
use Rattle.ir_print.proofs.items.put_insts.Goals as goal

pub loop-inst-preserved : goal.loop-inst-preserved
loop-inst-preserved g c = let is = c.inst-item.is in next-flat (line_text) c.args.insts.now c.loop-inst.inst-index c.inst-item.result c.loop-inst-test.true c.loop-inst.invariant (rw (sym is) c.put_line.ensures)
