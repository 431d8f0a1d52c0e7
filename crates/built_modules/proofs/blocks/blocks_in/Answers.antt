use Rattle.std.proofs.Common.{◌∙◌}
use Rattle.built_modules.specs.Blocks.{pieces_at}
use Rattle.built_modules.proofs.RunLemmas.{on_ok, walk_first, walk_closed, walk_last, walk_more}
use Rattle.built_modules.proofs.blocks.blocks_in.Goals as goal

pub loop-at-init : goal.loop-at-init
loop-at-init c = walk_first (pieces_at c.args.types.now.output c.args.types.now.units c.args.file) c.args.units.now c.args.head c.index-units-head.result
    c.first_run-run.result _ c.after-standing.result c.requires c.first_run-run.ensures c.after-standing.ensures

pub loop-at-preserved : goal.loop-at-preserved
loop-at-preserved c = walk_more (pieces_at c.args.types.now.output c.args.types.now.units c.args.file) c.args.units.now c.loop-at.at c.index-units-at.result
    c.in-Inside.spot c.loop-at.run _ _ c.loop-at.standing c.after-standing-in-loop-at.result c.loop-at-test.true c.in-Inside.is
    c.in_ok-run.ensures c.after-standing-in-loop-at.ensures c.loop-at.invariant

pub returns-in-Outside : goal.returns-in-Outside
returns-in-Outside c = on_ok _ _ c.closed.result (λ blocks is. is
    ∙ walk_closed (pieces_at c.args.types.now.output c.args.types.now.units c.args.file) c.args.units.now c.loop-at.at c.loop-at.run _ c.loop-at.standing
    c.in-Outside.is c.loop-at.invariant)
    c.closed.ensures

pub returns : goal.returns
returns c = on_ok _ _ c.closed-2.result (λ blocks is. is
    ∙ walk_last (pieces_at c.args.types.now.output c.args.types.now.units c.args.file) c.args.units.now c.loop-at.at c.loop-at.run _ c.loop-at.standing
    c.loop-at-test.false c.loop-at.invariant)
    c.closed-2.ensures
