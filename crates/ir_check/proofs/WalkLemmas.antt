-- What a walk over units knows behind one more of them.
use Rattle.std.proofs.Common.{◌≡◌, ℕ, ◌+◌, ◌<◌, Bool, true, List, length, slice_get, get_or, Option, Some, None, refl, sym, ap, ◌∙◌, nat_eq, false, arith}
use Rattle.std.proofs.lemmas.Option.{slice_get-get_or}
use Rattle.ltt_base.specs.declared.refusal.Placed.{Placed}
use Rattle.ir_values.specs.declared.units.Unit as unit
use Rattle.ir_values.specs.declared.units.Form.{Form}
use Rattle.check_names.specs.declared.flaws.Flaw.{Flaw}
use Rattle.ir_values.specs.declared.units.Form.TheVariants as form
use Rattle.check_bodies.specs.declared.sorts.Sort.{Sort}
use Rattle.check_bodies.specs.Sorts.{sort_of}
use Rattle.check_bodies.specs.declared.standing.Spot.{Spot}
use Rattle.check_bodies.specs.declared.standing.Standing.{Standing}
use Rattle.check_bodies.specs.declared.standing.Standing.TheVariants.{Outside, Inside}
use Rattle.check_bodies.specs.Standing.{after, after_outside, after_inside, standing}
use Rattle.check_bodies.proofs.StandingLemmas.{standing_next}
use Rattle.ir_check.specs.Units.{flaw_at, unit_flaw}
use Rattle.ir_check.specs.Answers.{IsCleanTo, IsFirstFlaw}
use Rattle.ir_check.specs.Walk.{IsHeadOf, IsHeadAt, is_head}

pub clean_start : (output : Bool) (us : List (Placed unit.Unit)) → IsCleanTo output us 0
clean_start output us at u low is = absurd (omega (arith, low))

-- the flaw that was found where the unit stands is the unit's
pub found : (output : Bool) (us : List (Placed unit.Unit)) (at : ℕ) (u : Placed unit.Unit) (place : Standing) (flaw : Option Flaw) →
    place ≡ standing us at → flaw ≡ flaw_at output us at place u.value.form → unit_flaw output us at u ≡ flaw
unfolding unit_flaw
found output us at u place flaw stands is = ap (λ s. flaw_at output us at s u.value.form) (sym stands) ∙ sym is

pub clean_more : (output : Bool) (us : List (Placed unit.Unit)) (at : ℕ) (d : Placed unit.Unit) → at < length us →
    IsCleanTo output us at → unit_flaw output us at (get_or us at d) ≡ None → IsCleanTo output us (at + 1)
clean_more output us at d within clean none n u low is =
    elim (nat_eq n at) as (λ same. nat_eq n at ≡ same → unit_flaw output us n u ≡ None) [
      | true ↦ λ here.
          let same : n ≡ at = grind arith in
          let stands : Some (get_or us at d) ≡ Some u = sym (slice_get-get_or us at d within) ∙ ap (slice_get us) (sym same) ∙ is in
          let one : get_or us at d ≡ u = cc stands in
          ap (λ m. unit_flaw output us m u) same ∙ ap (unit_flaw output us at) (sym one) ∙ none
      | false ↦ λ other. let before : n < at = grind arith in clean n u before is
    ] refl

opened : (at : ℕ) (form : Form) (head : ℕ) → (is_head form ≡ true → head ≡ at) → IsHeadOf (after_outside at form) head
opened at (form.DefineForm its) head is = is refl
opened at _ head is = tt

inside : (at : ℕ) (spot : Spot) (sort : Sort) (form : Form) (head : ℕ) → head ≡ spot.head → IsHeadOf (after_inside at spot sort form) head
inside at spot sort form head is = grind arith

-- the function of a unit is still that of the unit behind it, if that stands in a body
pub head_next : (at : ℕ) (place : Standing) (form : Form) (head : ℕ) → IsHeadAt at place form head → IsHeadOf (after at place form) head
head_next at Outside form head is = opened at form head is
head_next at (Inside spot) form head is = inside at spot (sort_of form) form head is

pub no_flaw : (flaw : Option Flaw) → ((f : Flaw) → flaw ≡ Some f → ⊥) → flaw ≡ None
no_flaw None never = refl
no_flaw (Some f) never = absurd (never f refl)
