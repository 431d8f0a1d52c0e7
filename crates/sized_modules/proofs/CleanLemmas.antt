-- The types of a file without flaws: those of its names are plain, and those of its variables are laid out.
use Rattle.std.proofs.Common.{◌≡◌, refl, ◌∙◌, ap, sym, subst, ℕ, suc, Bool, true, false, not, cond, List, [], ◌∷◌, get_or, slice_get, Option, Some, None, arith}
use Rattle.std.specs.Prelude.{All, IsTrue, is_none, flat_map, codes}
use Rattle.std.proofs.lemmas.Option.{slice_get-get_or}
use Rattle.std.proofs.lemmas.List.Elements.{All-nil, All-cons, All-append}
use Rattle.ltt_base.specs.declared.refusal.Code.TheVariants.{E06, E12}
use Rattle.ltt_base.specs.declared.refusal.Place.{Place}
use Rattle.ltt_base.specs.declared.refusal.Placed.{Placed}
use Rattle.ir_values.specs.declared.types.Ty.{Ty}
use Rattle.ir_values.specs.declared.constants.Const.{Const}
use Rattle.ir_values.specs.declared.modules.Var.{Var}
use Rattle.ir_values.specs.declared.units.Unit.{Unit as TheUnit}
use Rattle.ir_values.specs.declared.units.Attach.{Attach}
use Rattle.ir_values.specs.declared.units.Form.{Form}
use Rattle.ir_values.specs.declared.units.Form.TheVariants.{TypeForm, VariableForm}
use Rattle.ir_numbers.specs.Layout.{Layout, layout, IsLaidOut}
use Rattle.check_names.specs.declared.spaces.Space.TheVariants.{Types}
use Rattle.check_names.specs.Flaws.{◌then◌}
use Rattle.check_names.specs.Spaces.{first_definition}
use Rattle.check_types.specs.declared.places.Allowed.TheVariants.{Every, NonVoid}
use Rattle.check_types.specs.Heads.{head}
use Rattle.check_types.specs.Measures.{Measure, measure, is_past, past_flaw}
use Rattle.check_types.specs.Named.{type_in, type_of, named_type}
use Rattle.check_types.specs.Replaced.{replaced_within, replaced}
use Rattle.check_types.specs.Written.{written, place_flaw, is_void_head, is_allowed}
use Rattle.check_types.proofs.EndLemmas.{type_here, type_nowhere}
use Rattle.built_modules.specs.Modules.{module_of}
use Rattle.built_modules.specs.Variables.{vars_in, vars_at}
use Rattle.ir_check.specs.Answers.{IsClean}
use Rattle.ir_memories.specs.Worlds.{IsLaid}
use Rattle.sized_modules.specs.Written.{has_pair, types_in, AreWritten}
use Rattle.sized_modules.proofs.FlawLemmas.{none_first, none_second, unbroken, unbroken_word, holds, clash}
use Rattle.sized_modules.proofs.HeadLemmas.{IsPlain, ArePlain, Takes}
use Rattle.sized_modules.proofs.LayoutLemmas.{laid, bounded, lays_within}
use Rattle.sized_modules.proofs.UnitLemmas.{Units, clean_item, clean_type, clean_variable, all_at}

absent : {A P : Type 0} (value : A) → None ≡ Some value → P
absent value is = absurd (grind arith)

-- a type that a unit gives holds no pair
pub unpaired : (us : Units) → AreWritten us → (at : ℕ) (u : Placed TheUnit) (form : Form) → slice_get us at ≡ Some u → u.value.form ≡ form
    → All (λ ty. has_pair ty ≡ false) (types_in form)
unpaired us no_pair at u form here is =
    subst (λ f. All (λ ty. has_pair ty ≡ false) (types_in f)) is (all_at (λ v. All (λ ty. has_pair ty ≡ false) (types_in v.value.form)) us at u no_pair here)

pub unvoid_head : (known : Option Ty) → is_allowed NonVoid known ≡ true → is_void_head known ≡ false
unvoid_head None is = refl
unvoid_head (Some ty) is = grind arith

-- what holds of all items that each item gives
pub all_mapped : {X A : Type 0} (P : A → Type 0) (f : X → List A) (xs : List X) → All (λ x. All P (f x)) xs → All P (flat_map f xs)
all_mapped P f [] all = All-nil P
all_mapped P f (x ∷ xs) all =
    All-append P (f x) (flat_map f xs) (all 0 x (omega arith)) (all_mapped P f xs (λ k d low. all (suc k) d (omega (arith, low))))

module _ (output : Bool) where
  -- the type of a type unit
  type_plain : (us : Units) → AreWritten us → IsClean output us → (at : ℕ) (u : Placed TheUnit) (name : List ℕ) (ty : Ty) → slice_get us at ≡ Some u
      → u.value.form ≡ TypeForm name (Some ty) → IsPlain output us ty
  type_plain us no_pair clean at u name ty here is =
      let own = (written output us false ty).flaw in
      let place = place_flaw us false Every ty in
      let none = clean_type output us at name ty (clean_item output us at u (TypeForm name (Some ty)) clean here is (λ spot. refl)) in
      record {
        clean = none_first own place (none_first (own then place) (past_flaw us ty) none);
        plain = unpaired us no_pair at u (TypeForm name (Some ty)) here is 0 ty (omega arith);
      }

  form_plain : (us : Units) → AreWritten us → IsClean output us → (at : ℕ) (u : Placed TheUnit) (ty : Ty) → slice_get us at ≡ Some u
      → (form : Form) → u.value.form ≡ form → type_in form ≡ Some ty → IsPlain output us ty
  form_plain us no_pair clean at u ty here (TypeForm name (Some own)) is typed =
      let same : own ≡ ty = cc typed in subst (IsPlain output us) same (type_plain us no_pair clean at u name own here is)
  form_plain us no_pair clean at u ty here (TypeForm name None) is typed = absent ty typed
  form_plain us no_pair clean at u ty here _ is typed = absent ty typed

  place_plain : (us : Units) → AreWritten us → IsClean output us → (at : ℕ) (ty : Ty) (u : Option (Placed TheUnit)) → slice_get us at ≡ u
      → type_of u ≡ Some ty → IsPlain output us ty
  place_plain us no_pair clean at ty None here typed = absent ty typed
  place_plain us no_pair clean at ty (Some u) here typed = form_plain us no_pair clean at u ty here u.value.form refl typed

  definition_plain : (us : Units) → AreWritten us → IsClean output us → (name : List ℕ) (ty : Ty) → named_type us name ≡ Some ty
      → (place : Option ℕ) → first_definition Types name us ≡ place → IsPlain output us ty
  definition_plain us no_pair clean name ty is None nowhere = absent ty (sym (type_nowhere us name nowhere) ∙ is)
  definition_plain us no_pair clean name ty is (Some at) here =
      place_plain us no_pair clean at ty (slice_get us at) refl (sym (type_here us name at here) ∙ is)

  -- the types of all names
  pub are_plain : (us : Units) → AreWritten us → IsClean output us → ArePlain output us
  are_plain us no_pair clean name ty is = definition_plain us no_pair clean name ty is (first_definition Types name us) refl

  -- a plain type that isn't `void` and is within the limits is laid out with its names replaced
  laid_out : (us : Units) → ArePlain output us → (ty : Ty) → IsPlain output us ty → is_void_head (head us ty) ≡ false → is_past us ty ≡ false
      → (m : Option Measure) → measure us ty ≡ m → is_none m ≡ false → IsLaidOut (replaced us ty)
  unfolding replaced
  laid_out us plain ty own unvoid small None is some = clash true refl some
  laid_out us plain ty own unvoid small (Some m) is some =
      let takes : Takes output us m ty = record { plain = own; takes = is } in
      let levels : replaced us ty ≡ replaced_within us 4096 ty = ap (λ past. cond past ty (replaced_within us 4096 ty)) small in
      let own_layout : layout (replaced_within us 4096 ty) ≡ laid m = lays_within output us plain 4096 ty m takes unvoid (bounded output us m plain ty takes).most in
      subst (λ (l : Layout). IsTrue l.is_laid) (sym (ap layout levels ∙ own_layout)) refl

  -- the type of a variable
  variable_laid : (us : Units) → AreWritten us → IsClean output us → (at : ℕ) (u : Placed TheUnit) (name : List ℕ) (linkage : Option (List ℕ)) (constant : Bool)
      (ty : Ty) (init : Option Const) (align : Option (Option ℕ)) (attached : List Attach) → slice_get us at ≡ Some u
      → u.value.form ≡ VariableForm name linkage constant ty init align attached → IsLaidOut (replaced us ty)
  variable_laid us no_pair clean at u name linkage constant ty init align attached here is =
      let form = VariableForm name linkage constant ty init align attached in
      let own = (written output us false ty).flaw in
      let place = place_flaw us false NonVoid ty in
      let none = clean_variable output us at name linkage constant ty init align attached (clean_item output us at u form clean here is (λ spot. refl)) in
      let front = none_first (own then place) (past_flaw us ty) none in
      let plain : IsPlain output us ty = record { clean = none_first own place front; plain = unpaired us no_pair at u form here is 0 ty (omega arith) } in
      let small = unbroken_word (is_past us ty) E12 (codes "type") (none_second (own then place) (past_flaw us ty) none) in
      let allowed = holds (is_allowed NonVoid (head us ty)) (unbroken (not (is_allowed NonVoid (head us ty))) E06 (none_second own place front)) in
      laid_out us (are_plain us no_pair clean) ty plain (unvoid_head (head us ty) allowed) small (measure us ty) refl small

  -- the variable of a unit
  form_laid : (us : Units) → AreWritten us → IsClean output us → (file at : ℕ) (u : Placed TheUnit) → slice_get us at ≡ Some u
      → (place : Place) (form : Form) → u.value.form ≡ form → All (λ (v : Var). IsLaidOut v.ty) (vars_in output us file place form)
  form_laid us no_pair clean file at u here place (VariableForm name linkage constant ty init align attached) is =
      let own = variable_laid us no_pair clean at u name linkage constant ty init align attached here is in
      All-cons (λ (v : Var). IsLaidOut v.ty) _ [] own (All-nil (λ (v : Var). IsLaidOut v.ty))
  form_laid us no_pair clean file at u here place _ is = All-nil (λ (v : Var). IsLaidOut v.ty)

  -- each variable of a file without flaws has a type of a size
  pub clean_are_laid : (us : Units) (file : ℕ) → AreWritten us → IsClean output us → IsLaid (module_of output us file)
  unfolding module_of
  clean_are_laid us file no_pair clean =
      all_mapped (λ (v : Var). IsLaidOut v.ty) (vars_at output us file) us
      (λ k d low. let u = get_or us k d in form_laid us no_pair clean file k u (slice_get-get_or us k d low) u.place u.value.form refl)
