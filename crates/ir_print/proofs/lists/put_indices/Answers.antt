use Rattle.std.proofs.Common.{sym}
use Rattle.ir_print.specs.Instructions.{index_text}
use Rattle.ir_names.proofs.FlatLemmas.{next-flat}
use Rattle.ir_print.proofs.lists.put_indices.Goals as goal

pub loop-index-preserved : goal.loop-index-preserved
loop-index-preserved g c = let is = c.index-item.is in next-flat (index_text) c.args.indices.now c.loop-index.index-index c.index-item.result c.loop-index-test.true c.loop-index.invariant (rw (sym is) c.put_index.ensures)
