use Rattle.std.proofs.Common.{◌≡◌, get_or, subst, sym}
use Rattle.thin_files.proofs.Places.{places_more}
use Rattle.thin_files.proofs.thin.places.places_of.Goals as goal

pub loop-place-preserved : goal.loop-place-preserved
loop-place-preserved c = places_more c.args.texts.now c.loop-place.place c.bytes.result.now c.loop-place.places c.insert.new.self
    c.loop-place-test.true
    (subst (λ text. text ≡ get_or c.args.texts.now c.loop-place.place text) (sym c.bytes.ensures) c.index-texts-place.is)
    c.loop-place.invariant c.in-Ok.ensures.updates
