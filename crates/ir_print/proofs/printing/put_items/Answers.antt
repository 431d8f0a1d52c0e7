use Rattle.std.proofs.Common.{sym}
use Rattle.ir_names.proofs.FlatLemmas.{next-flat}
use Rattle.ir_print.proofs.printing.put_items.Goals as goal

pub loop-item-preserved : goal.loop-item-preserved
loop-item-preserved g c = let is = c.item-item.is in next-flat (g.F.Form.text) c.args.items.now c.loop-item.item-index c.item-item.result c.loop-item-test.true c.loop-item.invariant (rw (sym is) c.put_item.ensures)
