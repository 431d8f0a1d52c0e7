use Rattle.std.proofs.Common.{sym}
use Rattle.ir_print.specs.Items.{block_text}
use Rattle.ir_names.proofs.FlatLemmas.{next-flat}
use Rattle.ir_print.proofs.items.put_blocks.Goals as goal

pub loop-block-preserved : goal.loop-block-preserved
loop-block-preserved g c = let is = c.block-item.is in next-flat (block_text) c.args.blocks.now c.loop-block.block-index c.block-item.result c.loop-block-test.true c.loop-block.invariant (rw (sym is) c.put_block.ensures)
