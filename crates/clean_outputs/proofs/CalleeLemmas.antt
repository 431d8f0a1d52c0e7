-- The functions that calls name: the unit that first defines the name has no flaw.
use Rattle.std.proofs.Common.{◌≡◌, refl, ◌∙◌, ap, sym, subst, ℕ, suc, Bool, true, false, cond, List, [], ◌∷◌, slice_get, Option, Some, None}
use Rattle.std.specs.Prelude.{find}
use Rattle.std.specs.Cmp.Lexicographic.{bytes_decides}
use Rattle.std.proofs.lemmas.Option.{none-some, same_Some}
use Rattle.ltt_base.specs.declared.refusal.Placed.{Placed}
use Rattle.ir_values.specs.declared.constants.Const.{Const}
use Rattle.ir_values.specs.declared.constants.Operand.{Operand}
use Rattle.ir_values.specs.declared.constants.Operand.TheVariants as operand
use Rattle.ir_values.specs.declared.units.Unit.{Unit as TheUnit}
use Rattle.ir_values.specs.declared.units.Head.{Head}
use Rattle.ir_values.specs.declared.units.Form.{Form}
use Rattle.ir_values.specs.declared.units.Form.TheVariants.{DeclareForm, DefineForm}
use Rattle.check_names.specs.declared.spaces.Space.TheVariants.{Globals}
use Rattle.check_names.specs.Flaws.{◌then◌}
use Rattle.check_names.specs.Spaces.{sign, global_of, is_named, is_definition, first_unit, again_flaw}
use Rattle.check_names.specs.Reserved.{reserved_flaw, definition_flaw, intrinsic_flaw}
use Rattle.check_types.specs.declared.places.Allowed.TheVariants.{Returned}
use Rattle.check_types.specs.Written.{type_flaw}
use Rattle.check_bodies.specs.Bodies.{head_flaw}
use Rattle.check_constants.specs.Intrinsics.{intrinsic_of, declares, is_declaration}
use Rattle.check_constants.specs.Callees.{callee_of}
use Rattle.kept_parts.specs.Called.{function_head, unit_function, function_of, may_call, named_function, called}
use Rattle.check_items.specs.Attached.{attached_flaw, declared_flaw}
use Rattle.check_items.specs.Counts.{counts_before, functions_flaw}
use Rattle.check_items.specs.Functions.{rest_flaw, body_head_flaw, define_flaw, is_left, left_flaw, result_place, signature_flaw, declared_head_flaw, declare_flaw}
use Rattle.check_items.specs.Items.{item_flaw, limits_flaw}
use Rattle.check_items.specs.Linkages.{linkage_flaw}
use Rattle.printed_units.specs.Written.{IsName}
use Rattle.sized_modules.proofs.FlawLemmas.{none_first, none_second, clash}
use Rattle.sized_modules.proofs.UnitLemmas.{Units, clean_item}
use Rattle.said_units.specs.Sayable.{IsSaid, IsSaidHead}
use Rattle.clean_outputs.proofs.FileLemmas.{IsFile, said_at}
use Rattle.clean_outputs.proofs.NameLemmas.{free_name}

-- what is found in a list stands at a place of it
pub record FoundAt {X : Type 0} (p : X → Bool) (xs : List X) (x : X) : Type 0 where
  pub at : ℕ
  pub here : slice_get xs at ≡ Some x
  pub holds : p x ≡ true

found_step : {X : Type 0} (p : X → Bool) (other : X) (xs : List X) (x : X) → (find p xs ≡ Some x → FoundAt p xs x)
    → (b : Bool) → p other ≡ b → cond b (Some other) (find p xs) ≡ Some x → FoundAt p (other ∷ xs) x
found_step p other xs x rest true tells is =
    let same = same_Some other x is in record { at = 0; here = is; holds = ap p (sym same) ∙ tells }
found_step p other xs x rest false tells is =
    let later = rest is in record { at = suc later.at; here = later.here; holds = later.holds }

pub found_at : {X : Type 0} (p : X → Bool) (xs : List X) (x : X) → find p xs ≡ Some x → FoundAt p xs x
found_at p [] x is = absurd (none-some x is)
found_at p (other ∷ xs) x is = found_step p other xs x (found_at p xs x) (p other) refl is

-- what is known of a function that a call names
pub record IsFunction (us : Units) (name : List ℕ) (function : Head) : Type 0 where
  pub is : function_of us name ≡ Some function
  pub named : function.name ≡ name
  pub printed : IsName name
  pub said : IsSaidHead function
  pub at : ℕ
  pub declared : declares (first_unit Globals name us) ≡ true → declared_head_flaw true us at function ≡ None

-- a declaration and a definition without flaws

module _ (us : Units) (of : IsFile us) (at : ℕ) (u : Placed TheUnit) (own : Head) (here : slice_get us at ≡ Some u) where
  declared_clean : u.value.form ≡ DeclareForm own → declared_head_flaw true us at own ≡ None
  unfolding item_flaw
  declared_clean is =
      let counts = functions_flaw (counts_before us at) (DeclareForm own) in
      let declare = declare_flaw true us at own (DeclareForm own) in
      let none : item_flaw true us at (DeclareForm own) ≡ None = clean_item true us at u (DeclareForm own) of.clean here is (λ spot. refl) in
      let head = declared_head_flaw true us at own in
      let body = head_flaw us at (DeclareForm own) in
      let linkage = linkage_flaw own.linkage in
      none_first head body (none_second linkage (head then body)
      (none_second (declared_flaw true own.attached) (linkage then (head then body)) (none_second counts declare none)))

  defined_clean : u.value.form ≡ DefineForm own → definition_flaw true us at Globals own.name ≡ None
  unfolding item_flaw
  defined_clean is =
      let counts = functions_flaw (counts_before us at) (DefineForm own) in
      let define = define_flaw true us at own (DefineForm own) in
      let limits = limits_flaw us at (counts_before us at) (DefineForm own) in
      let none : item_flaw true us at (DefineForm own) ≡ None = clean_item true us at u (DefineForm own) of.clean here is (λ spot. refl) in
      let head = body_head_flaw true us at own in
      let rest = head_flaw us at (DefineForm own) then attached_flaw true us None own.attached in
      let named = definition_flaw true us at Globals own.name in
      let behind = intrinsic_flaw own.name then rest_flaw true us false None own in
      let of_head : head ≡ None = none_first head rest (none_second (linkage_flaw own.linkage) (head then rest)
      (none_first define limits (none_second counts (define then limits) none))) in
      none_first named behind (none_second (type_flaw true us false Returned own.result) (named then behind) of_head)

  -- a declaration's name is one that may be defined
  declared_free : declared_head_flaw true us at own ≡ None → definition_flaw true us at Globals own.name ≡ None
  declared_free none =
      let quiet = is_left true own.name in
      let intrinsic = intrinsic_of true own.name in
      let named = definition_flaw true us at Globals own.name in
      let behind = left_flaw true own.name then (rest_flaw true us quiet intrinsic own then signature_flaw us intrinsic own) in
      none_first named behind (none_second (type_flaw true us quiet (result_place intrinsic) own.result) (named then behind) none)

  name_printed : IsSaidHead own → definition_flaw true us at Globals own.name ≡ None → IsName own.name
  name_printed said none =
      free_name (sign Globals) own.name said.name
      (none_second (again_flaw us at Globals own.name) (reserved_flaw true (sign Globals) own.name) none)

-- the unit that first defines a name, where it is a function
module _ (us : Units) (of : IsFile us) (name : List ℕ) (function : Head) (is : function_of us name ≡ Some function) where
  form_function : (u : Placed TheUnit) → first_unit Globals name us ≡ Some u → (at : ℕ) → slice_get us at ≡ Some u
      → is_definition Globals name u ≡ true → (form : Form) → u.value.form ≡ form → function_head form ≡ Some function
      → IsFunction us name function
  form_function u first at here names (DeclareForm own) says head =
      let same : own ≡ function = same_Some own function head in
      let said : IsSaidHead own = subst IsSaid says (said_at us of at u here) in
      let same_name = (bytes_decides own.name name).0 (ap (λ form. is_named name (global_of form)) (sym says) ∙ names) in
      let none = declared_clean us of at u own here says in
      record {
        is = is;
        named = ap (λ h. h.name) (sym same) ∙ same_name;
        printed = subst IsName same_name (name_printed us of at u own here said (declared_free us of at u own here none));
        said = subst IsSaidHead same said;
        at = at;
        declared = λ _. subst (λ h. declared_head_flaw true us at h ≡ None) same none;
      }
  form_function u first at here names (DefineForm own) says head =
      let same : own ≡ function = same_Some own function head in
      let said : IsSaidHead own = subst IsSaid says (said_at us of at u here) in
      let same_name = (bytes_decides own.name name).0 (ap (λ form. is_named name (global_of form)) (sym says) ∙ names) in
      let none = defined_clean us of at u own here says in
      record {
        is = is;
        named = ap (λ h. h.name) (sym same) ∙ same_name;
        printed = subst IsName same_name (name_printed us of at u own here said none);
        said = subst IsSaidHead same said;
        at = at;
        declared = λ declared. clash (declares (first_unit Globals name us)) declared (ap declares first ∙ ap is_declaration says);
      }
  form_function u first at here names _ says head = absurd (none-some function head)

  unit_known : (u : Option (Placed TheUnit)) → first_unit Globals name us ≡ u → unit_function u ≡ Some function → IsFunction us name function
  unit_known None first head = absurd (none-some function head)
  unit_known (Some u) first head =
      let found = found_at (is_definition Globals name) us u first in
      form_function u first found.at found.here found.holds u.value.form refl head

  pub function_known : IsFunction us name function
  function_known = unit_known (first_unit Globals name us) refl is

-- a function that a call calls directly

may_found : (may : Bool) (found : Option Head) (function : Head) → cond may found None ≡ Some function → found ≡ Some function
may_found true found function is = is
may_found false found function is = absurd (none-some function is)

-- it is known by its own name
own_function : (us : Units) (name : List ℕ) (function : Head) → IsFunction us name function → IsFunction us function.name function
own_function us name function known = subst (λ own. IsFunction us own function) (sym known.named) known

callee_function : (us : Units) → IsFile us → (constant : Const) (name : Option (List ℕ)) (function : Head)
    → named_function us constant name ≡ Some function → IsFunction us function.name function
callee_function us of constant None function is = absurd (none-some function is)
callee_function us of constant (Some name) function is =
    own_function us name function
    (function_known us of name function (may_found (may_call us constant name) (function_of us name) function is))

pub called_known : (us : Units) → IsFile us → (callee : Operand) (function : Head) → called us callee ≡ Some function
    → IsFunction us function.name function
called_known us of (operand.Reg name) function is = absurd (none-some function is)
called_known us of (operand.Const constant) function is = callee_function us of constant (callee_of us constant) function is
