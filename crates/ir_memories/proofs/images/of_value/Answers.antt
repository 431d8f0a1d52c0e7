use Rattle.std.proofs.Common.{subst, ◌<◌}
use Rattle.ir_memories.specs.Cells.{cells_in}
use Rattle.ir_memories.proofs.CellLemmas.{value_more}
use Rattle.ir_memories.proofs.images.of_value.Goals as goal

pub loop-k-preserved : goal.loop-k-preserved
loop-k-preserved c =
    value_more c.args.v.now c.loop-k.cells c.add.new.self _ c.cell_at.result c.loop-k.k (cells_in c.args.v.now)
    (subst (λ n. c.loop-k.k < n) c.cells_in-k-end.ensures.value c.loop-k-test.true) c.in_ok-add.ensures.added c.cell_at.ensures c.loop-k.invariant
