-- Calls of intrinsics without flaws.
use Rattle.std.proofs.Common.{◌≡◌, refl, ◌∙◌, ap, sym, subst, ℕ, ◌<◌, nat_eq, Bool, true, false, not, ◌&&◌, ◌||◌, cond, List, [], ◌∷◌, Option, Some, None, is_some, codes, arith}
use Rattle.std.specs.Prelude.{IfSome}
use Rattle.std.specs.Prelude.{is_none}
use Rattle.std.specs.List.{AllByRecursion, AllZip}
use Rattle.std.proofs.lemmas.Option.{none-some}
use Rattle.unit_grammar.proofs.BoolLemmas.{and_both, and_second, or_second}
use Rattle.ltt_base.specs.declared.refusal.Code.TheVariants.{E06, E07}
use Rattle.ir_values.specs.declared.types.Width.{Width}
use Rattle.ir_values.specs.declared.types.Width.TheVariants.{W1, W8, W16, W32, W64}
use Rattle.ir_values.specs.declared.types.Ty.{Ty, out-Ty}
use Rattle.ir_values.specs.declared.types.Ty.TheVariants as ty
use Rattle.ir_values.specs.declared.types.Ty.TheVariants.{outs-Int, outs-Void}
use Rattle.ir_values.specs.declared.types.Ty.TheOpen.{Ty-F}
use Rattle.ir_values.specs.declared.units.Param.{Param}
use Rattle.ir_values.specs.declared.units.Head.{Head}
use Rattle.ir_values.specs.declared.units.Arg.{Arg}
use Rattle.ir_values.specs.declared.units.Arg.TheVariants.{Value, Word, Node}
use Rattle.ir_numbers.specs.Numbers.{bits}
use Rattle.check_names.specs.declared.spaces.Space.TheVariants.{Globals}
use Rattle.check_names.specs.Flaws.{◌then◌, worded_when}
use Rattle.check_names.specs.Reserved.{is_intrinsic, reserved_flaw, definition_flaw}
use Rattle.check_names.specs.Spaces.{first_unit}
use Rattle.check_bodies.specs.Numbers.{behind_name, name_or}
use Rattle.check_bodies.specs.Sorts.{is_void}
use Rattle.check_types.specs.declared.places.Allowed.TheVariants.{Every, Scalar}
use Rattle.check_types.specs.Differences.{differ}
use Rattle.check_types.specs.Replaced.{replaced}
use Rattle.check_types.specs.Written.{type_flaw}
use Rattle.check_constants.specs.declared.intrinsics.Intrinsic.{Intrinsic}
use Rattle.check_constants.specs.declared.intrinsics.Intrinsic.TheVariants.{Rotate}
use Rattle.check_constants.specs.Intrinsics.{intrinsic_of, is_declared_intrinsic, declares}
use Rattle.check_items.specs.declared.signatures.Shape.TheVariants.{Number}
use Rattle.check_items.specs.Functions.{words_flaw, param_flaw, params_flaw, rest_flaw, left_flaw, signature_flaw, typed_head_flaw}
use Rattle.check_items.specs.Signatures.{is_number, passes, fits, all_fit, is_signature}
use Rattle.kept_parts.specs.Called.{called_intrinsic}
use Rattle.check_calls.specs.Calls.{whole_flaw}
use Rattle.check_calls.specs.Fitting.{is_other_argument, is_other_for, is_other_type, is_other_written, is_unfit, is_one, is_misfit, is_mistyped}
use Rattle.check_operands.specs.Operands.{operand_kept}
use Rattle.built_instructions.specs.Arguments.{value_at}
use Rattle.built_instructions.specs.Values.{byte_of}
use Rattle.sized_modules.proofs.FlawLemmas.{none_first, none_second, unbroken, neither_first, neither_second, holds}
use Rattle.sized_modules.proofs.UnitLemmas.{Units}
use Rattle.said_units.specs.Sayable.{IsSaidParam, IsSaidHead, AreSaidTys}
use Rattle.clean_outputs.proofs.ArgumentLemmas.{IsSoundArg, alike, types_sound, fits_type, void_word}
use Rattle.clean_outputs.proofs.CalleeLemmas.{IsFunction}
use Rattle.clean_outputs.proofs.DifferLemmas.{same_replaced}
use Rattle.clean_outputs.proofs.FileLemmas.{IsFile}
use Rattle.clean_outputs.proofs.OperandLemmas.{IsGood}
use Rattle.clean_outputs.proofs.TypeLemmas.{IsSound, SoundLayer, sound_of, sound_head}

-- the lowest 8 bits
pub byte_small : (n : ℕ) → byte_of n < 256
byte_small n = omega arith

-- a type of the shape of `i64`

long_width : (width : Width) → nat_eq (bits width) (bits W64) ≡ true → width ≡ W64
long_width W1 is = absurd (grind arith)
long_width W8 is = absurd (grind arith)
long_width W16 is = absurd (grind arith)
long_width W32 is = absurd (grind arith)
long_width W64 is = refl

long_layer : (us : Units) (whole : Ty) (layer : Ty-F Ty) → SoundLayer us whole layer → is_number W64 layer ≡ true → whole ≡ ty.Int W64
long_layer us whole (Ty-F.Int width) is long = is ∙ ap ty.Int (long_width width long)
long_layer us whole _ is long = absurd (grind arith)

pub record IsLong (us : Units) (type : Ty) : Type 0 where
  pub sound : IsSound us type
  pub long : replaced us type ≡ ty.Int W64

long_type : (us : Units) → IsFile us → (type : Ty) → IsSound us type → fits us (Number W64) type ≡ true → IsLong us type
long_type us of type sound fit =
    let known = sound_head us of type sound in
    record {
      sound = sound;
      long = long_layer us (replaced us type) (out-Ty known.known) known.layer (ap (passes (is_number W64)) (sym known.is) ∙ fit);
    }

-- the first parameter is an `i64`
abbrev pub FirstIsLong : Units → List Param → Type 0
FirstIsLong us [] = ⊥
FirstIsLong us (param ∷ params) = IsLong us param.ty

pub record IsRotation (us : Units) (function : Head) : Type 0 where
  pub result : IsLong us function.result
  pub first : FirstIsLong us function.params

first_long : (us : Units) → IsFile us → (params : List Param) → AllByRecursion IsSaidParam params
    → all_fit us (Number W64 ∷ Number W64 ∷ Number W64 ∷ []) params ≡ true → params_flaw true us false (Some Rotate) 0 0 params ≡ None
    → FirstIsLong us params
first_long us of [] said fit none = absurd (grind arith)
first_long us of (param ∷ params) said fit none =
    let own = param_flaw true us false Scalar 0 param in
    let rest = params_flaw true us false (Some Rotate) 1 (behind_name 0 param.name) params in
    let typed = type_flaw true us false Scalar param.ty in
    let words = words_flaw param.left then reserved_flaw true (codes "%") (name_or 0 param.name) in
    let both = and_both (fits us (Number W64) param.ty) (all_fit us (Number W64 ∷ Number W64 ∷ []) params) fit in
    let sound = sound_of us Scalar param.ty refl said.0.type (none_first typed words (none_first own rest none)) in
    long_type us of param.ty sound both.0

-- a declaration of a rotation has the type of one
typed_rotation : (us : Units) → IsFile us → (at : ℕ) (function : Head) → IsSaidHead function
    → typed_head_flaw true us at false (Some Rotate) function ≡ None → IsRotation us function
typed_rotation us of at function said none =
    let typed = type_flaw true us false Every function.result in
    let named = definition_flaw true us at Globals function.name in
    let left = left_flaw true function.name in
    let params = params_flaw true us false (Some Rotate) 0 0 function.params in
    let words = worded_when function.dots E07 (codes "...") then words_flaw function.left in
    let rest = rest_flaw true us false (Some Rotate) function in
    let signed = signature_flaw us (Some Rotate) function in
    let of_rest : rest then signed ≡ None = none_second left (rest then signed)
    (none_second named (left then (rest then signed)) (none_second typed (named then (left then (rest then signed))) none)) in
    let is = holds (is_signature us Rotate function) (unbroken (not (is_signature us Rotate function)) E06 (none_second rest signed of_rest)) in
    let fit = and_both (fits us (Number W64) function.result)
    (all_fit us (Number W64 ∷ Number W64 ∷ Number W64 ∷ []) function.params)
    (and_both (fits us (Number W64) function.result && all_fit us (Number W64 ∷ Number W64 ∷ Number W64 ∷ []) function.params)
    (not function.dots) is).0 in
    record {
      result = long_type us of function.result
          (sound_of us Every function.result refl said.result (none_first typed (named then (left then (rest then signed))) none)) fit.0;
      first = first_long us of function.params said.params fit.1 (none_first params words (none_first rest signed of_rest));
    }

-- what the intrinsic of a function's name is
pub record IsIntrinsic (us : Units) (name : List ℕ) (intrinsic : Intrinsic) : Type 0 where
  pub declared : is_declared_intrinsic us name ≡ true
  pub is : intrinsic_of true name ≡ Some intrinsic

intrinsic_choice : (us : Units) (name : List ℕ) (intrinsic : Intrinsic) (any : Bool) → is_declared_intrinsic us name ≡ any
    → cond any (intrinsic_of true name) None ≡ Some intrinsic → IsIntrinsic us name intrinsic
intrinsic_choice us name intrinsic true declared is = record { declared = declared; is = is }
intrinsic_choice us name intrinsic false declared is = absurd (none-some intrinsic is)

-- a rotation that is called is declared with its type
pub rotation_called : (us : Units) → IsFile us → (function : Head) → IsFunction us function.name function
    → called_intrinsic true us (Some function) ≡ Some Rotate → IsRotation us function
rotation_called us of function known calls =
    let name = function.name in
    let own = intrinsic_choice us name Rotate (is_declared_intrinsic us name) refl calls in
    let declared = (and_both (is_intrinsic name) (declares (first_unit Globals name us)) own.declared).1 in
    let none = known.declared declared in
    let typed : typed_head_flaw true us known.at (is_intrinsic name && false) (Some Rotate) function ≡ None =
    subst (λ intrinsic. typed_head_flaw true us known.at (is_intrinsic name && is_none intrinsic) intrinsic function ≡ None) own.is none in
    typed_rotation us of known.at function known.said
    (subst (λ quiet. typed_head_flaw true us known.at quiet (Some Rotate) function ≡ None) (and_second (is_intrinsic name) false refl) typed)

-- what a rotation rotates

abbrev LongAt : Units → List Arg → Type 0
LongAt us args = IsGood (ty.Int W64) (value_at us args 0)

-- an argument where an `i64` is wanted
long_argument : (us : Units) → IsFile us → (type : Ty) (arg : Arg) (args : List Arg) → IsLong us type → IsSoundArg us arg
    → is_other_argument us type arg ≡ false → LongAt us (arg ∷ args)
long_argument us of type (Value own left value) args wants is fit =
    let same = fits_type us of type own wants.sound is.sound fit in
    subst (λ t. IsGood t (operand_kept us own value)) (same ∙ wants.long) is.good
long_argument us of type (Word text) args wants is fit = absurd is
long_argument us of type (Node name) args wants is fit = absurd is

long_first : (us : Units) → IsFile us → (params : List Param) (args : List Arg) → FirstIsLong us params → AllByRecursion (IsSoundArg us) args
    → AllZip (λ param arg. is_other_for us param (Some arg) ≡ false) params args → LongAt us args
long_first us of [] args wants are fit = absurd wants
long_first us of (param ∷ params) [] wants are fit = absurd fit
long_first us of (param ∷ params) (arg ∷ args) wants are fit = long_argument us of param.ty arg args wants are.0 fit.0

long_written : (us : Units) → IsFile us → (params : List Param) (types : List Ty) (args : List Arg) → FirstIsLong us params
    → AllByRecursion (IsSound us) types → AllByRecursion (IsSoundArg us) args
    → AllZip (λ param type. is_other_type us param (Some type) ≡ false) params types
    → AllZip (λ type arg. is_other_written us type (Some arg) ≡ false) types args → LongAt us args
long_written us of [] types args wants sound are fit typed = absurd wants
long_written us of (param ∷ params) [] args wants sound are fit typed = absurd fit
long_written us of (param ∷ params) (type ∷ types) [] wants sound are fit typed = absurd typed
long_written us of (param ∷ params) (type ∷ types) (arg ∷ args) wants sound are fit typed =
    let same = same_replaced us of type param.ty sound.0 wants.sound fit.0 in
    long_argument us of type arg args (record { sound = sound.0; long = same ∙ wants.long }) are.0 typed.0

fitting_long : (us : Units) → IsFile us → (function : Head) (whole : Option (List Ty)) (args : List Arg) → IsRotation us function
    → IfSome whole AreSaidTys → whole_flaw true us false whole ≡ None → AllByRecursion (IsSoundArg us) args
    → is_unfit us function whole args ≡ false → is_mistyped us false whole args ≡ false → LongAt us args
fitting_long us of function None args rotates said none are fit typed =
    long_first us of function.params args rotates.first are (alike (is_other_for us) (λ param. refl) args function.params fit)
fitting_long us of function (Some types) args rotates said none are fit typed =
    long_written us of function.params types args rotates.first (types_sound us types said none) are
    (alike (is_other_type us) (λ param. refl) types function.params fit) (alike (is_other_written us) (λ type. refl) args types typed)

-- the value that a call of a rotation rotates, and that it gives one
module _ (us : Units) (of : IsFile us) (function : Head) (rotates : IsRotation us function) (dots : Bool) (result : Ty) (whole : Option (List Ty))
    (args : List Arg) (fit : is_misfit us (Some function) result whole dots args ≡ false) where
  pub rotated_long : IfSome whole AreSaidTys → whole_flaw true us false whole ≡ None → AllByRecursion (IsSoundArg us) args
      → is_mistyped us false whole args ≡ false → LongAt us args
  rotated_long said none are typed =
      let one = is_one dots function.dots in
      let unfit = is_unfit us function whole args in
      let neither = neither_second (differ us result function.result) (one || unfit) fit in
      fitting_long us of function whole args rotates said none are (neither_second one unfit neither) typed

  result_long : IsSound us result → replaced us result ≡ ty.Int W64
  result_long sound =
      let rest = is_one dots function.dots || is_unfit us function whole args in
      same_replaced us of result function.result sound rotates.result.sound (neither_first (differ us result function.result) rest fit)
      ∙ rotates.result.long

  unvoid_result : IsSound us result → (void : Bool) → is_void (out-Ty result) ≡ void → void ≡ false
  unvoid_result sound false is = refl
  unvoid_result sound true is =
      let same : Ty-F.Void ≡ Ty-F.Int W64 =
      sym outs-Void ∙ ap out-Ty (sym (void_word us of result sound is) ∙ result_long sound) ∙ outs-Int W64 in
      absurd (grind arith)

  pub rotation_named : (dst : Option (List ℕ)) → IsSound us result → is_some dst || not (is_void (out-Ty result)) ≡ true
  rotation_named dst sound =
      ap (λ void. is_some dst || not void) (unvoid_result sound (is_void (out-Ty result)) refl) ∙ or_second (is_some dst) true refl
