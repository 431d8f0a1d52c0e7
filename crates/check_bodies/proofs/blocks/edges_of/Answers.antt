use Rattle.check_bodies.specs.Blocks.{no_edge, edges_at}
use Rattle.check_bodies.proofs.GatheredLemmas.{found_first, found_closed, found_last, found_more}
use Rattle.check_bodies.proofs.blocks.edges_of.Goals as goal

pub loop-at-init : goal.loop-at-init
loop-at-init c = found_first no_edge edges_at c.args.units.now c.args.head c.index-units-head.result c.new-edges.result c.after-standing.result
    c.requires c.new-edges.ensures (cc (c.index-units-head.is, c.after-standing.ensures))

pub returns-in-Outside : goal.returns-in-Outside
returns-in-Outside c = found_closed edges_at c.args.units.now c.loop-at.at c.loop-at.edges _ c.loop-at.standing c.in-Outside.is c.loop-at.invariant

pub loop-at-preserved : goal.loop-at-preserved
loop-at-preserved c = found_more edges_at c.args.units.now c.loop-at.at c.index-units-at.result c.in-Inside.spot c.loop-at.edges c.add_edges_at.new.edges _
    c.loop-at.standing c.after-standing-in-loop-at.result c.loop-at-test.true c.in-Inside.is c.in_ok-add_edges_at.ensures
    c.after-standing-in-loop-at.ensures c.loop-at.invariant

pub returns : goal.returns
returns c = found_last edges_at c.args.units.now c.loop-at.at c.loop-at.edges _ c.loop-at.standing c.loop-at-test.false c.loop-at.invariant
