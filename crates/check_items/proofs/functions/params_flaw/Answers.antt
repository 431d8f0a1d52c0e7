use Rattle.check_items.proofs.ParamLemmas.{params_step}
use Rattle.check_items.proofs.functions.params_flaw.Goals as goal

pub loop-at-preserved : goal.loop-at-preserved
loop-at-preserved c = params_step c.args.types.now.output c.args.types.now.units c.args.quiet c.args.intrinsic c.args.params.now c.loop-at.at c.loop-at.next
    c.index-params-at.result c.loop-at.flaw c.counts-flaw.result c.in_ok-more.more _ c.behind_name-next.result
    c.loop-at-test.true c.counts-flaw.ensures
    (cc (c.in_ok-more.ensures, c.place_of-allowed.ensures, c.index-params-at.is))
    (cc (c.behind_name-next.ensures, c.as_ref.ensures.value, c.index-params-at.is))
    c.loop-at.invariant
