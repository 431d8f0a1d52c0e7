-- What is known of a file: its units are such as a text can say, and none has a flaw.
use Rattle.std.proofs.Common.{◌≡◌, refl, ◌∙◌, sym, subst, ℕ, zero, suc, Bool, true, false, List, [], ◌∷◌, map, Option, Some, None, slice_get, arith}
use Rattle.std.specs.Prelude.{All}
use Rattle.std.specs.List.{AllByRecursion, list_any}
use Rattle.std.proofs.lemmas.Option.{slice_get_within}
use Rattle.std.proofs.lemmas.List.Elements.{All-nil, All-cons, All-from_recursion}
use Rattle.ltt_base.specs.declared.refusal.Placed.{Placed}
use Rattle.ir_values.specs.declared.types.Ty.{Ty, out-Ty, map-Ty, fold_out-Ty}
use Rattle.ir_values.specs.declared.types.Ty.TheOpen.{Ty-F}
use Rattle.ir_values.specs.declared.units.Unit.{Unit as TheUnit}
use Rattle.ir_values.specs.declared.units.Form.{Form}
use Rattle.ir_values.specs.declared.units.Form.TheVariants.{TypeForm, VariableForm}
use Rattle.check_names.specs.declared.spaces.Space.TheVariants.{Types}
use Rattle.check_names.specs.Spaces.{first_definition}
use Rattle.check_bodies.specs.Standing.{standing}
use Rattle.check_types.specs.Named.{type_in, type_of, named_type}
use Rattle.check_types.proofs.EndLemmas.{type_here, type_nowhere}
use Rattle.ir_check.specs.Answers.{IsClean}
use Rattle.ir_check.specs.Units.{flaw_at, unit_flaw}
use Rattle.type_grammar.specs.Levels.{levels}
use Rattle.sized_modules.specs.Written.{pair_step, has_pair, types_in, AreWritten}
use Rattle.sized_modules.proofs.CleanLemmas.{are_plain}
use Rattle.sized_modules.proofs.HeadLemmas.{ArePlain}
use Rattle.sized_modules.proofs.UnitLemmas.{Units, all_at}
use Rattle.said_units.specs.Sayable.{SaidTyLayer, IsSaidTyWithin, IsSaid, IsSaidTy, AreSaid}

-- the types of its names are plain, too
pub record IsFile (us : Units) : Type 0 where
  pub said : AreSaid us
  pub clean : IsClean true us
  pub plain : ArePlain true us

-- a type that is said holds no pair

parts_plain : (P : Ty → Type 0) → ((part : Ty) → P part → has_pair part ≡ false) → (parts : List Ty) → AllByRecursion P parts
    → list_any (λ part. part) (map has_pair parts) ≡ false
parts_plain P none [] said = refl
parts_plain P none (part ∷ parts) said =
    let first = none part said.0 in let rest = parts_plain P none parts said.1 in grind arith

layer_plain : (P : Ty → Type 0) → ((part : Ty) → P part → has_pair part ≡ false) → (layer : Ty-F Ty) → SaidTyLayer P layer
    → pair_step (map-Ty Ty Bool has_pair layer) ≡ false
layer_plain P none (Ty-F.Array count part) said = none part said.1
layer_plain P none (Ty-F.Struct parts) said = parts_plain P none parts said
layer_plain P none Ty-F.Pair said = absurd said
layer_plain P none _ said = refl

pub said_plain : (n : ℕ) (type : Ty) → IsSaidTyWithin n type → has_pair type ≡ false
said_plain zero type said = absurd said
said_plain (suc n) type said =
    fold_out-Ty Bool pair_step type ∙ layer_plain (IsSaidTyWithin n) (said_plain n) (out-Ty type) said

-- nor do the types that units give

form_written : (form : Form) → IsSaid form → All (λ type. has_pair type ≡ false) (types_in form)
form_written (TypeForm name (Some type)) said =
    All-cons (λ type. has_pair type ≡ false) type [] (said_plain levels type said) (All-nil (λ type. has_pair type ≡ false))
form_written (VariableForm name linkage constant type init align attached) said =
    All-cons (λ type. has_pair type ≡ false) type [] (said_plain levels type said.1) (All-nil (λ type. has_pair type ≡ false))
form_written (TypeForm name None) said = All-nil (λ type. has_pair type ≡ false)
form_written _ said = All-nil (λ type. has_pair type ≡ false)

are_written : (us : Units) → AreSaid us → AreWritten us
are_written [] said = All-nil (λ (u : Placed TheUnit). All (λ ty. has_pair ty ≡ false) (types_in u.value.form))
are_written (u ∷ us) said =
    All-cons (λ (v : Placed TheUnit). All (λ ty. has_pair ty ≡ false) (types_in v.value.form)) u us
    (form_written u.value.form said.0) (are_written us said.1)

pub file_of : (us : Units) → AreSaid us → IsClean true us → IsFile us
file_of us said clean = record { said = said; clean = clean; plain = are_plain true us (are_written us said) clean }

-- what the unit at a place says
pub said_at : (us : Units) → IsFile us → (at : ℕ) (u : Placed TheUnit) → slice_get us at ≡ Some u → IsSaid u.value.form
said_at us of at u here =
    all_at (λ (v : Placed TheUnit). IsSaid v.value.form) us at u (All-from_recursion (λ (v : Placed TheUnit). IsSaid v.value.form) us of.said) here

-- the unit at a place has no flaw
pub clean_at : (us : Units) → IsFile us → (at : ℕ) (u : Placed TheUnit) → slice_get us at ≡ Some u
    → flaw_at true us at (standing us at) u.value.form ≡ None
unfolding unit_flaw
clean_at us of at u here = of.clean at u (slice_get_within us at u here) here

absent : {A P : Type 0} (value : A) → None ≡ Some value → P
absent value is = absurd (grind arith)

form_said : (form : Form) (type : Ty) → IsSaid form → type_in form ≡ Some type → IsSaidTy type
form_said (TypeForm name (Some own)) type said is = let same : own ≡ type = cc is in subst IsSaidTy same said
form_said (TypeForm name None) type said is = absent type is
form_said _ type said is = absent type is

place_said : (us : Units) → IsFile us → (at : ℕ) (type : Ty) (u : Option (Placed TheUnit)) → slice_get us at ≡ u → type_of u ≡ Some type
    → IsSaidTy type
place_said us of at type None here is = absent type is
place_said us of at type (Some u) here is = form_said u.value.form type (said_at us of at u here) is

definition_said : (us : Units) → IsFile us → (name : List ℕ) (type : Ty) → named_type us name ≡ Some type
    → (place : Option ℕ) → first_definition Types name us ≡ place → IsSaidTy type
definition_said us of name type is None nowhere = absent type (sym (type_nowhere us name nowhere) ∙ is)
definition_said us of name type is (Some at) here =
    place_said us of at type (slice_get us at) refl (sym (type_here us name at here) ∙ is)

-- a type that a name stands for is said by a unit
pub named_said : (us : Units) → IsFile us → (name : List ℕ) (type : Ty) → named_type us name ≡ Some type → IsSaidTy type
named_said us of name type is = definition_said us of name type is (first_definition Types name us) refl
