use Rattle.std.proofs.Common.{◌≡◌, ◌+◌, ◌<◌, ◌∙◌, length, slice_get, get_or, Some, None, sym, ap, subst, arith}
use Rattle.std.proofs.lemmas.Option.{slice_get-get_or}
use Rattle.check_bodies.specs.Standing.{standing}
use Rattle.check_bodies.proofs.StandingLemmas.{standing_first, standing_next}
use Rattle.ir_check.specs.Units.{flaw_at, unit_flaw}
use Rattle.ir_check.specs.Answers.{IsCleanTo}
use Rattle.ir_check.specs.Walk.{IsHeadOf, IsHeadAt}
use Rattle.ir_check.proofs.WalkLemmas.{clean_start, clean_more, found, head_next, no_flaw}
use Rattle.ir_check.proofs.check.first_flaw.Goals as goal

pub loop-at-init : goal.loop-at-init
loop-at-init c = (
  cc (c.units-units.ensures, c.context.ensures),
  ap (λ b. b.units) c.in_ok-body.ensures,
  sym (standing_first c.units-units.result.now),
  tt,
  c.first_counts-so_far.ensures,
  clean_start c.args.types.now.output c.units-units.result.now,
)

pub returns-in-Some : goal.returns-in-Some
returns-in-Some c =
    let within : c.loop-at.at < length c.units-units.result.now = let test = c.loop-at-test.true in omega arith in
    let stands : slice_get c.args.types.now.units c.loop-at.at ≡ Some c.index-units-at.result =
    cc (slice_get-get_or c.units-units.result.now c.loop-at.at c.index-units-at.result within, c.index-units-at.is, c.loop-at.invariant.0) in
    let place : c.loop-at.standing ≡ standing c.args.types.now.units c.loop-at.at = cc (c.loop-at.invariant.2, c.loop-at.invariant.0) in
    let flaw : c.in_ok-flaw.flaw ≡ flaw_at c.args.types.now.output c.args.types.now.units c.loop-at.at c.loop-at.standing c.index-units-at.result.value.form =
    cc (c.in_ok-flaw.ensures, c.index-units-at.is) in (
      c.index-units-at.result,
      record {
        stands = stands;
        is = found c.args.types.now.output c.args.types.now.units c.loop-at.at c.index-units-at.result c.loop-at.standing c.in_ok-flaw.flaw place flaw ∙ c.in-Some.is;
        clean = subst (λ us. IsCleanTo c.args.types.now.output us c.loop-at.at) c.loop-at.invariant.0 c.loop-at.invariant.5;
      },
    )

pub loop-at-preserved : goal.loop-at-preserved
loop-at-preserved c =
    let within : c.loop-at.at < length c.units-units.result.now = let test = c.loop-at-test.true in omega arith in
    let next = standing_next c.units-units.result.now c.loop-at.at c.index-units-at.result within in
    let none : c.in_ok-flaw.flaw ≡ None = no_flaw c.in_ok-flaw.flaw c.in_default.not-Some in
    let flaw : c.in_ok-flaw.flaw ≡ flaw_at c.args.types.now.output c.units-units.result.now c.loop-at.at c.loop-at.standing c.index-units-at.result.value.form =
    cc (c.in_ok-flaw.ensures, c.index-units-at.is, c.loop-at.invariant.0) in
    let own = found c.args.types.now.output c.units-units.result.now c.loop-at.at c.index-units-at.result c.loop-at.standing c.in_ok-flaw.flaw
    c.loop-at.invariant.2 flaw in (
      c.loop-at.invariant.0,
      c.in_ok-body-2.ensures.units,
      cc (next, c.after-standing.ensures, c.loop-at.invariant.2, c.index-units-at.is),
      subst (λ place. IsHeadOf place c.in_ok-body-2.body.head) (sym c.after-standing.ensures)
          (head_next c.loop-at.at c.loop-at.standing (get_or c.units-units.result.now c.loop-at.at c.index-units-at.result).value.form
          c.in_ok-body-2.body.head c.in_ok-body-2.ensures.head),
      c.counted-so_far.ensures,
      clean_more c.args.types.now.output c.units-units.result.now c.loop-at.at c.index-units-at.result within c.loop-at.invariant.5
          (cc (own, none, c.index-units-at.is)),
    )
