-- A text's units, their module and their refusal are one.
use Rattle.std.proofs.Common.{◌≡◌, ◌⊎◌, ◌<◌, ℕ, Bool, List, sym, ◌∙◌, ap, subst, inl, inr}
use Rattle.std.proofs.lemmas.Bool.{cases_lt}
use Rattle.std.proofs.lemmas.Option.{slice_get_within}
use Rattle.std.proofs.Math.Nat.{eq-or-lt_of_le}
use Rattle.ltt_base.specs.declared.refusal.Refusal.{Refusal}
use Rattle.ltt_base.specs.declared.refusal.Placed.{Placed}
use Rattle.ir_values.specs.declared.units.Unit.{Unit as TheUnit}
use Rattle.ir_values.specs.declared.modules.Module.{Module}
use Rattle.check_names.specs.declared.flaws.Flaw.{Flaw}
use Rattle.ir_text.specs.Laws.{ReadingsAgree, ReadingsEnd, RefusalsAgree}
use Rattle.ir_check.specs.Answers as check
use Rattle.built_modules.specs.Modules.{module_of}
use Rattle.ltt_driver.specs.Files.{IsChecked, IsUnchecked, IsModuleOf}

-- what is known of readings
pub record Readings : Type 0 where
  pub agree : ReadingsAgree
  pub end : ReadingsEnd
  pub refusals : RefusalsAgree

clean_refused : (output : Bool) (us : List (Placed TheUnit)) (refusal : Refusal) → check.IsClean output us → check.IsRefused output us refusal → ⊥
clean_refused output us refusal clean (at, u, flaw, first, is) =
    let none = clean at u (slice_get_within us at u first.stands) first.stands in
    let some = first.is in
    absurd (cc)

same_flaw : (output : Bool) (us : List (Placed TheUnit)) (at other : ℕ) (u v : Placed TheUnit) (f g : Flaw) → at ≡ other
    → check.IsFirstFlaw output us at u f → check.IsFirstFlaw output us other v g → check.refusal_of u f ≡ check.refusal_of v g
same_flaw output us at other u v f g same a b =
    let one = a.stands in
    let two = b.stands in
    let units : u ≡ v = cc in
    let first = a.is in
    let second = b.is in
    let flaws : f ≡ g = cc in
    ap (λ (w : Placed TheUnit). check.refusal_of w f) units ∙ ap (λ (h : Flaw). check.refusal_of v h) flaws

earlier : (output : Bool) (us : List (Placed TheUnit)) (at other : ℕ) (u v : Placed TheUnit) (f g : Flaw) → at < other
    → check.IsFirstFlaw output us at u f → check.IsFirstFlaw output us other v g → ⊥
earlier output us at other u v f g less a b =
    let none = b.clean at u less a.stands in
    let some = a.is in
    absurd (cc)

by_order : (output : Bool) (us : List (Placed TheUnit)) (at other : ℕ) (u v : Placed TheUnit) (f g : Flaw) → (at < other) ⊎ ((other ≡ at) ⊎ (other < at))
    → check.IsFirstFlaw output us at u f → check.IsFirstFlaw output us other v g → check.refusal_of u f ≡ check.refusal_of v g
by_order output us at other u v f g (inl less) a b = absurd (earlier output us at other u v f g less a b)
by_order output us at other u v f g (inr (inl same)) a b = same_flaw output us at other u v f g (sym same) a b
by_order output us at other u v f g (inr (inr more)) a b = absurd (earlier output us other at v u g f more b a)

ordered : (at other : ℕ) → (at < other) ⊎ ((other ≡ at) ⊎ (other < at))
ordered at other = elim (cases_lt at other) [ inl less ↦ inl less | inr most ↦ inr (eq-or-lt_of_le most) ]

units_refused : (output : Bool) (us : List (Placed TheUnit)) (refusal other : Refusal) → check.IsRefused output us refusal
    → check.IsRefused output us other → refusal ≡ other
units_refused output us refusal other (at, u, f, a, is) (place, v, g, b, so) =
    is ∙ by_order output us at place u v f g (ordered at place) a b ∙ sym so

pub same_units : Readings → (output : Bool) (text : List ℕ) (us vs : List (Placed TheUnit)) → IsChecked output text us → IsChecked output text vs → us ≡ vs
same_units known output text us vs a b = known.agree 1 text us vs a.read b.read

-- a text whose units have no flaw has no refusal
pub never_both : Readings → (output : Bool) (text : List ℕ) (us : List (Placed TheUnit)) (refusal : Refusal) → IsChecked output text us
    → IsUnchecked output text refusal → ⊥
unfolding IsUnchecked
never_both known output text us refusal a (inl b) = known.end 1 text us refusal a.read b
never_both known output text us refusal a (inr b) =
    let same = known.agree 1 text us b.units a.read b.read in
    clean_refused output b.units refusal (subst (check.IsClean output) same a.clean) b.refused

pub one_refusal : Readings → (output : Bool) (text : List ℕ) (refusal other : Refusal) → IsUnchecked output text refusal → IsUnchecked output text other
    → refusal ≡ other
unfolding IsUnchecked
one_refusal known output text refusal other (inl a) (inl b) = known.refusals 1 text refusal other a b
one_refusal known output text refusal other (inl a) (inr b) = absurd (known.end 1 text b.units refusal b.read a)
one_refusal known output text refusal other (inr a) (inl b) = absurd (known.end 1 text a.units other a.read b)
one_refusal known output text refusal other (inr a) (inr b) =
    let same = known.agree 1 text a.units b.units a.read b.read in
    units_refused output b.units refusal other (subst (λ (us : List (Placed TheUnit)). check.IsRefused output us refusal) same a.refused) b.refused

pub one_module : Readings → (output : Bool) (text : List ℕ) (m n : Module) → IsModuleOf output text m → IsModuleOf output text n → m ≡ n
one_module known output text m n a b =
    a.is ∙ ap (λ (us : List (Placed TheUnit)). module_of output us 1) (same_units known output text a.units b.units a.checked b.checked) ∙ sym b.is
