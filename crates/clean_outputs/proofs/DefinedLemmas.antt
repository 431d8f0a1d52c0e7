-- Which unit of a file without flaws defines a global: one alone, so that it is the first.
use Rattle.std.proofs.Common.{◌≡◌, refl, ◌∙◌, ap, sym, subst, true≢false, ℕ, suc, Bool, true, false, cond, ◌||◌, List, [], ◌∷◌, take, Option, Some, None, slice_get, inl, inr}
use Rattle.std.specs.Prelude.{flat_map}
use Rattle.std.specs.Str.{bytes_eq}
use Rattle.std.proofs.lemmas.List.Folds.{list_any-append}
use Rattle.std.proofs.lemmas.Option.{same_Some}
use Rattle.unit_grammar.proofs.BoolLemmas.{or_either, or_first, or_second, or_neither, is_false, not_both}
use Rattle.ltt_base.specs.declared.refusal.Code.TheVariants.{E04}
use Rattle.ltt_base.specs.declared.refusal.Placed.{Placed}
use Rattle.ir_values.specs.declared.types.Ty.{Ty}
use Rattle.ir_values.specs.declared.constants.Const.{Const}
use Rattle.ir_values.specs.declared.units.Unit.{Unit as TheUnit}
use Rattle.ir_values.specs.declared.units.Attach.{Attach}
use Rattle.ir_values.specs.declared.units.Head.{Head}
use Rattle.ir_values.specs.declared.units.Form.{Form}
use Rattle.ir_values.specs.declared.units.Form.TheVariants.{VariableForm, DeclareForm, DefineForm, TableForm}
use Rattle.check_names.specs.declared.spaces.Space.TheVariants.{Globals}
use Rattle.check_names.specs.Flaws.{◌then◌, each}
use Rattle.ir_names.specs.Words.{named_word}
use Rattle.check_names.specs.Spaces.{sign, global_of, is_named, is_definition, defines, first_unit, again_flaw}
use Rattle.check_names.specs.Reserved.{reserved_flaw, definition_flaw, intrinsic_flaw}
use Rattle.check_types.specs.declared.places.Allowed.TheVariants.{Returned}
use Rattle.check_types.specs.Written.{type_flaw}
use Rattle.check_bodies.specs.Bodies.{head_flaw}
use Rattle.check_constants.specs.Intrinsics.{intrinsic_of}
use Rattle.check_items.specs.Attached.{attached_flaw, declared_flaw}
use Rattle.check_items.specs.Counts.{counts_before, variables_flaw, functions_flaw}
use Rattle.check_items.specs.Linkages.{linkage_flaw}
use Rattle.check_items.specs.Items.{item_flaw, limits_flaw}
use Rattle.check_items.specs.Variables.{variable_flaw, named_flaw, held_flaw, align_flaw, own_attached_flaw}
use Rattle.check_items.specs.Functions.{declare_flaw, define_flaw, declared_head_flaw, body_head_flaw, rest_flaw, left_flaw, signature_flaw, is_left, result_place}
use Rattle.check_items.specs.Tables.{form_flaw, listed_flaw}
use Rattle.sized_modules.proofs.FlawLemmas.{none_first, none_second, unbroken_word}
use Rattle.sized_modules.proofs.UnitLemmas.{Units, IsOuter, clean_item}
use Rattle.printed_modules.specs.Printed.{AreApart}
use Rattle.clean_outputs.proofs.FileLemmas.{IsFile}
use Rattle.clean_outputs.proofs.ApartLemmas.{Names, is_in, same_text, apart_joined}

-- a unit that defines a global may not stand in a body
outer_of : (form : Form) (name : List ℕ) → is_named name (global_of form) ≡ true → IsOuter form
outer_of (VariableForm own linkage constant ty init align attached) name is = λ spot. refl
outer_of (DeclareForm head) name is = λ spot. refl
outer_of (DefineForm head) name is = λ spot. refl
outer_of (TableForm own funcs) name is = λ spot. refl
outer_of _ name is = absurd (true≢false (sym is))

-- no unit before one without a flaw defines its name

first_here : (us : Units) (at : ℕ) (own name : List ℕ) → definition_flaw true us at Globals own ≡ None → bytes_eq own name ≡ true
    → defines Globals name (take at us) ≡ false
first_here us at own name none same =
    let again = none_first (again_flaw us at Globals own) (reserved_flaw true (sign Globals) own) none in
    let free = unbroken_word (defines Globals own (take at us)) E04 (named_word (sign Globals) own) again in
    ap (λ x. defines Globals x (take at us)) (sym (same_text own name same)) ∙ free

variable_first : (us : Units) (at : ℕ) (name : List ℕ) (linkage : Option (List ℕ)) (constant : Bool) (ty : Ty) (init : Option Const)
    (align : Option (Option ℕ)) (attached : List Attach)
    → item_flaw true us at (VariableForm name linkage constant ty init align attached) ≡ None → definition_flaw true us at Globals name ≡ None
unfolding item_flaw
variable_first us at name linkage constant ty init align attached none =
    let form = VariableForm name linkage constant ty init align attached in
    let own = variable_flaw true us at name linkage ty init align attached in
    let behind = limits_flaw us at (counts_before us at) form in
    let of_own : own ≡ None = none_first own behind (none_second (variables_flaw (counts_before us at)) (own then behind) none) in
    let named = named_flaw true us at name linkage in
    let held = held_flaw true us linkage ty init then (align_flaw align then own_attached_flaw true us ty init attached) in
    none_first (definition_flaw true us at Globals name) (intrinsic_flaw name then linkage_flaw linkage) (none_first named held of_own)

declare_first : (us : Units) (at : ℕ) (head : Head) → item_flaw true us at (DeclareForm head) ≡ None
    → definition_flaw true us at Globals head.name ≡ None
unfolding item_flaw
declare_first us at head none =
    let form = DeclareForm head in
    let own : declare_flaw true us at head form ≡ None =
    none_second (functions_flaw (counts_before us at) form) (declare_flaw true us at head form) none in
    let typed = declared_head_flaw true us at head in
    let behind : linkage_flaw head.linkage then (typed then head_flaw us at form) ≡ None =
    none_second (declared_flaw true head.attached) (linkage_flaw head.linkage then (typed then head_flaw us at form)) own in
    let of_typed : typed ≡ None =
    none_first typed (head_flaw us at form) (none_second (linkage_flaw head.linkage) (typed then head_flaw us at form) behind) in
    let quiet = is_left true head.name in
    let intrinsic = intrinsic_of true head.name in
    let rest = left_flaw true head.name then (rest_flaw true us quiet intrinsic head then signature_flaw us intrinsic head) in
    none_first (definition_flaw true us at Globals head.name) rest
    (none_second (type_flaw true us quiet (result_place intrinsic) head.result) (definition_flaw true us at Globals head.name then rest) of_typed)

define_first : (us : Units) (at : ℕ) (head : Head) → item_flaw true us at (DefineForm head) ≡ None
    → definition_flaw true us at Globals head.name ≡ None
unfolding item_flaw
define_first us at head none =
    let form = DefineForm head in
    let own = define_flaw true us at head form in
    let limits = limits_flaw us at (counts_before us at) form in
    let of_own : own ≡ None = none_first own limits (none_second (functions_flaw (counts_before us at) form) (own then limits) none) in
    let body = body_head_flaw true us at head in
    let behind = head_flaw us at form then attached_flaw true us None head.attached in
    let of_body : body ≡ None = none_first body behind (none_second (linkage_flaw head.linkage) (body then behind) of_own) in
    let rest = intrinsic_flaw head.name then rest_flaw true us false None head in
    none_first (definition_flaw true us at Globals head.name) rest
    (none_second (type_flaw true us false Returned head.result) (definition_flaw true us at Globals head.name then rest) of_body)

table_first : (us : Units) (at : ℕ) (name : List ℕ) (funcs : List (List ℕ)) → item_flaw true us at (TableForm name funcs) ≡ None
    → definition_flaw true us at Globals name ≡ None
unfolding item_flaw
table_first us at name funcs none =
    let rest = each (listed_flaw true us) funcs in
    none_first (definition_flaw true us at Globals name) rest
    (none_second (form_flaw true) (definition_flaw true us at Globals name then rest) none)

item_first : (us : Units) (at : ℕ) (form : Form) (name : List ℕ) → item_flaw true us at form ≡ None → is_named name (global_of form) ≡ true
    → defines Globals name (take at us) ≡ false
item_first us at (VariableForm own linkage constant ty init align attached) name none is =
    first_here us at own name (variable_first us at own linkage constant ty init align attached none) is
item_first us at (DeclareForm head) name none is = first_here us at head.name name (declare_first us at head none) is
item_first us at (DefineForm head) name none is = first_here us at head.name name (define_first us at head none) is
item_first us at (TableForm own funcs) name none is = first_here us at own name (table_first us at own funcs none) is
item_first us at _ name none is = absurd (true≢false (sym is))

unit_first : (us : Units) → IsFile us → (at : ℕ) (u : Placed TheUnit) (name : List ℕ) → slice_get us at ≡ Some u
    → is_definition Globals name u ≡ true → defines Globals name (take at us) ≡ false
unit_first us of at u name here is =
    item_first us at u.value.form name (clean_item true us at u u.value.form of.clean here refl (outer_of u.value.form name is)) is

-- each unit's name is that of none behind it
abbrev pub AreApartUnits : Units → Type 0
AreApartUnits [] = Unit {0}
AreApartUnits (u ∷ us) = ((name : List ℕ) → is_definition Globals name u ≡ true → defines Globals name us ≡ false) × AreApartUnits us

none_later : (name : List ℕ) (us : Units)
    → ((at : ℕ) (u : Placed TheUnit) → slice_get us at ≡ Some u → is_definition Globals name u ≡ true → ⊥) → defines Globals name us ≡ false
none_later name [] never = refl
none_later name (u ∷ us) never =
    λ i. is_false (is_definition Globals name u) (never 0 u refl) i || none_later name us (λ at later here. never (suc at) later here) i

abbrev EachFirst : Units → Type 0
EachFirst us = (at : ℕ) (u : Placed TheUnit) (name : List ℕ) → slice_get us at ≡ Some u → is_definition Globals name u ≡ true
    → defines Globals name (take at us) ≡ false

units_apart : (us : Units) → EachFirst us → AreApartUnits us
units_apart [] first = tt
units_apart (u ∷ us) first = (
  λ name is. none_later name us (λ at later here also.
      not_both (is_definition Globals name u) is
      (or_neither (is_definition Globals name u) (defines Globals name (take at us)) (first (suc at) later name here also)).0),
  units_apart us (λ at later name here also.
      (or_neither (is_definition Globals name u) (defines Globals name (take at us)) (first (suc at) later name here also)).1),
)

pub file_apart : (us : Units) → IsFile us → AreApartUnits us
file_apart us of = units_apart us (unit_first us of)

-- the first unit that defines a name does so
pub first_defines : (us : Units) (name : List ℕ) (u : Placed TheUnit) → first_unit Globals name us ≡ Some u → is_definition Globals name u ≡ true
first_defines [] name u is = absurd (cc)
first_defines (v ∷ us) name u is =
    elim (is_definition Globals name v) as (λ b. is_definition Globals name v ≡ b → cond b (Some v) (first_unit Globals name us) ≡ Some u
    → is_definition Globals name u ≡ true) [
      | true ↦ λ here same. subst (λ (w : Placed TheUnit). is_definition Globals name w ≡ true) (same_Some v u same) here
      | false ↦ λ _ rest. first_defines us name u rest
    ] refl is

-- names that are picked from units, each of them one that its unit defines

abbrev pub found : (Placed TheUnit → Names) → Option (Placed TheUnit) → Names
found pick None = []
found pick (Some u) = pick u

abbrev pub IsPick : (Placed TheUnit → Names) → Type 0
IsPick pick = (u : Placed TheUnit) (name : List ℕ) → is_in name (pick u) ≡ true → is_definition Globals name u ≡ true

or_nothing : (b : Bool) → b || false ≡ b
or_nothing true = refl
or_nothing false = refl

module _ (pick : Placed TheUnit → Names) (picks : IsPick pick) where
  picked_defines : (us : Units) (name : List ℕ) → is_in name (flat_map pick us) ≡ true → defines Globals name us ≡ true
  picked_defines [] name is = is
  picked_defines (u ∷ us) name is =
      elim (or_either (is_in name (pick u)) (is_in name (flat_map pick us)) (sym (list_any-append (bytes_eq name) (pick u) (flat_map pick us)) ∙ is))
      as (λ _. is_definition Globals name u || defines Globals name us ≡ true) [
        | inl here ↦ or_first (is_definition Globals name u) (defines Globals name us) (picks u name here)
        | inr later ↦ or_second (is_definition Globals name u) (defines Globals name us) (picked_defines us name later)
      ]

  unpicked : (us : Units) (name : List ℕ) → defines Globals name us ≡ false → is_in name (flat_map pick us) ≡ false
  unpicked us name none = is_false (is_in name (flat_map pick us)) (λ is. not_both (defines Globals name us) (picked_defines us name is) none)

  -- a name is picked where it is picked from the first unit that defines it
  pub picked_first : (us : Units) (name : List ℕ) → AreApartUnits us
      → is_in name (flat_map pick us) ≡ is_in name (found pick (first_unit Globals name us))
  picked_first [] name apart = refl
  picked_first (u ∷ us) name apart =
      list_any-append (bytes_eq name) (pick u) (flat_map pick us)
      ∙ (elim (is_definition Globals name u) as (λ b. is_definition Globals name u ≡ b → is_in name (pick u) || is_in name (flat_map pick us)
      ≡ is_in name (found pick (cond b (Some u) (first_unit Globals name us)))) [
        | true ↦ λ here. ap (λ b. is_in name (pick u) || b) (unpicked us name (apart.0 name here)) ∙ or_nothing (is_in name (pick u))
        | false ↦ λ other. ap (λ b. b || is_in name (flat_map pick us)) (is_false (is_in name (pick u)) (λ is. not_both _ (picks u name is) other))
            ∙ picked_first us name apart.1
      ] refl)

  pub picked_apart : (us : Units) → AreApartUnits us → ((u : Placed TheUnit) → AreApart (pick u)) → AreApart (flat_map pick us)
  picked_apart [] apart alone = tt
  picked_apart (u ∷ us) apart alone =
      apart_joined (pick u) (flat_map pick us) (alone u) (picked_apart us apart.1 alone)
      (λ name is. unpicked us name (apart.0 name (picks u name is)))
