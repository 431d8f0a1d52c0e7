use Rattle.std.proofs.Common.{◌∙◌, sym, ap, get_or}
use Rattle.global_layout.proofs.PlacingLemmas.{placed-too-long}
use Rattle.global_layout.proofs.placing.placed_in.Goals as goal

pub returns-in-None : goal.returns-in-None
returns-in-None c =
    let fragments = c.args.fragments.now in
    let long = rw c.in-None.is at c.in_ok-more.ensures in
    placed-too-long c.args.shapes.now fragments c.loop-at.at c.loop-at.placing c.in_ok-objects.objects c.loop-at-test.true
    (c.in_ok-objects.ensures ∙ c.index-fragments-at.is ∙ ap (get_or fragments c.loop-at.at) (sym c.in_ok-objects.ensures)) c.loop-at.invariant.so_far long
