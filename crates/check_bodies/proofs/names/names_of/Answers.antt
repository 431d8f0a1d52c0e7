use Rattle.check_bodies.specs.Names.{head_names, names_at}
use Rattle.check_bodies.proofs.GatheredLemmas.{found_first, found_closed, found_last, found_more}
use Rattle.check_bodies.proofs.names.names_of.Goals as goal

pub loop-at-init : goal.loop-at-init
loop-at-init c = found_first head_names names_at c.args.units.now c.args.head c.index-units-head.result c.in_ok-names.names c.after-standing.result
    c.requires c.in_ok-names.ensures c.after-standing.ensures

pub returns-in-Outside : goal.returns-in-Outside
returns-in-Outside c = found_closed names_at c.args.units.now c.loop-at.at c.loop-at.names _ c.loop-at.standing c.in-Outside.is c.loop-at.invariant

pub loop-at-preserved : goal.loop-at-preserved
loop-at-preserved c = found_more names_at c.args.units.now c.loop-at.at c.index-units-at.result c.in-Inside.spot c.loop-at.names c.add_own.new.names _
    c.loop-at.standing c.after-standing-in-loop-at.result c.loop-at-test.true c.in-Inside.is c.in_ok-add_own.ensures
    c.after-standing-in-loop-at.ensures c.loop-at.invariant

pub returns : goal.returns
returns c = found_last names_at c.args.units.now c.loop-at.at c.loop-at.names _ c.loop-at.standing c.loop-at-test.false c.loop-at.invariant
