use Rattle.std.proofs.Common.{◌∙◌, ◌+◌, sym, ap, arith, set, length}
use Rattle.ir_memories.proofs.CellLemmas.{written_none, written_more, length-written}
use Rattle.ir_memories.proofs.cells.write.Goals as goal

pub loop-k-init : goal.loop-k-init
loop-k-init c = sym (written_none c.args.at c.args.v.now 0 c.args.cells.now)

pub set-requires : goal.set-requires
set-requires c =
    let same = ap length c.loop-k.invariant in
    let long = length-written c.args.at c.loop-k.k c.args.v.now 0 c.args.cells.now in
    let within = c.requires in
    let count = c.cells_in-k-end.ensures.value in
    let here = c.loop-k-test.true in
    omega arith

pub loop-k-preserved : goal.loop-k-preserved
loop-k-preserved c =
    c.set.ensures ∙ ap (λ cell. set c.loop-k.cells (c.args.at + c.loop-k.k) cell) c.cell_at.ensures
    ∙ written_more c.args.at c.loop-k.k c.args.v.now c.loop-k.cells c.args.cells.now c.loop-k.invariant
