use Rattle.std.proofs.Common.{◌≡◌, true, get_or, subst, sym, arith}
use Rattle.thin_files.proofs.Places.{found_none, found_more, found_all, not_found}
use Rattle.thin_files.proofs.thin.texts.are_distinct.Goals as goal

pub loop-place-init : goal.loop-place-init
loop-place-init c = found_none _ _

pub loop-place-preserved : goal.loop-place-preserved
loop-place-preserved c =
    let text = c.bytes.result.now in
    found_more c.args.texts.now c.in_ok-places.places c.loop-place.place text c.loop-place-test.true
    (subst (λ t. t ≡ get_or c.args.texts.now c.loop-place.place t) (sym c.bytes.ensures) c.index-texts-place.is)
    (c.stands_at.ensures.0 c.if-not-stands_at.false) c.loop-place.invariant

pub returns-then-not-stands_at : goal.returns-then-not-stands_at
returns-then-not-stands_at c =
    let text = c.bytes.result.now in
    not_found c.args.texts.now c.in_ok-places.places c.loop-place.place text c.loop-place-test.true
    (subst (λ t. t ≡ get_or c.args.texts.now c.loop-place.place t) (sym c.bytes.ensures) c.index-texts-place.is)
    c.in_ok-places.ensures (λ same. let held : c.stands_at.result ≡ true = c.stands_at.ensures.1 same in cc)

pub returns : goal.returns
returns c = found_all c.args.texts.now c.in_ok-places.places c.loop-place.place (omega arith) c.loop-place.invariant
