use Rattle.std.proofs.Common.{◌≡◌, sym, ap, ◌∙◌, arith}
use Rattle.check_bodies.specs.Standing.{after, standing}
use Rattle.check_bodies.proofs.StandingLemmas.{standing_first, standing_next}
use Rattle.check_bodies.proofs.standing.standing_at.Goals as goal

pub loop-place-init : goal.loop-place-init
loop-place-init c = sym (standing_first c.args.units.now)

pub loop-place-preserved : goal.loop-place-preserved
loop-place-preserved c =
    let next = standing_next c.args.units.now c.loop-place.place c.index-units-place.result (omega arith) in
    cc (next, c.after-standing.ensures, c.loop-place.invariant, c.index-units-place.is)
