-- Arguments without flaws, and the types of calls that write them.
use Rattle.std.proofs.Common.{◌≡◌, refl, ◌∙◌, ap, sym, subst, ℕ, suc, nat_lt, Bool, true, false, not, ◌&&◌, ◌||◌, List, [], ◌∷◌, length, map, slice_get, Option, Some, None, arith}
use Rattle.std.specs.Prelude.{IfSome}
use Rattle.std.specs.List.{AllByRecursion, AllZip}
use Rattle.std.proofs.lemmas.Bool.Decides.{nat_tests}
use Rattle.std.proofs.lemmas.Option.{same_Some}
use Rattle.ir_values.specs.declared.types.Ty.{Ty, out-Ty}
use Rattle.ir_values.specs.declared.types.Ty.TheVariants as ty
use Rattle.ir_values.specs.declared.types.Ty.TheOpen.{Ty-F}
use Rattle.ir_values.specs.declared.constants.Operand.{Operand}
use Rattle.ir_values.specs.declared.units.Arg.{Arg}
use Rattle.ir_values.specs.declared.units.Arg.TheVariants.{Value, Word, Node}
use Rattle.check_names.specs.Flaws.{◌then◌, each}
use Rattle.check_bodies.specs.Sorts.{is_void}
use Rattle.check_types.specs.declared.places.Allowed.TheVariants.{Scalar}
use Rattle.check_types.specs.Differences.{differ}
use Rattle.check_types.specs.Heads.{type_head, named_head, head}
use Rattle.check_types.specs.Replaced.{replaced}
use Rattle.check_types.specs.Written.{type_flaw, is_metadata_type}
use Rattle.check_constants.specs.declared.intrinsics.Intrinsic.{Intrinsic}
use Rattle.check_calls.specs.declared.arguments.Role.{Role}
use Rattle.check_calls.specs.declared.arguments.Role.TheVariants.{Plain}
use Rattle.check_calls.specs.Arguments.{role_of, role_flaw, word_flaw, argument_flaw, arguments_from}
use Rattle.check_calls.specs.Calls.{whole_flaw}
use Rattle.check_calls.specs.Fitting.{unlike, is_other_argument, is_other_written, is_mistyped}
use Rattle.check_operands.specs.Operands.{operand_flaw, operand_kept}
use Rattle.built_instructions.specs.Arguments.{values_kept, types_kept}
use Rattle.built_instructions.specs.Calls.{parameters_kept}
use Rattle.printed_units.specs.Written.{IsTy, IsArgument}
use Rattle.printed_modules.specs.Printed.{IsKeptOperand}
use Rattle.sized_modules.proofs.FlawLemmas.{none_first, none_second, neither_first, neither_second, clash}
use Rattle.sized_modules.proofs.UnitLemmas.{Units}
use Rattle.said_units.specs.Sayable.{IsSaidArg, AreSaidTys}
use Rattle.clean_outputs.proofs.DifferLemmas.{same_replaced}
use Rattle.clean_outputs.proofs.FileLemmas.{IsFile}
use Rattle.clean_outputs.proofs.OperandLemmas.{IsGood, scalar_good}
use Rattle.clean_outputs.proofs.PlaceLemmas.{then_none}
use Rattle.clean_outputs.proofs.TypeLemmas.{IsSound, SoundLayer, sound_of, sound_head}

-- lists that aren't unlike

both_lower : (a b : ℕ) → nat_lt (suc a) (suc b) ≡ nat_lt a b
both_lower a b = grind (arith, nat_tests)

module _ {X Y : Type 0} (is_other : X → Option Y → Bool) where
  behind_first : (y : Y) (ys : List Y) (at : ℕ) (xs : List X) → unlike is_other false (y ∷ ys) (suc at) xs ≡ unlike is_other false ys at xs
  unfolding unlike
  behind_first y ys at [] = ap (λ lower. lower && not false) (both_lower at (length ys))
  behind_first y ys at (x ∷ xs) = ap (λ rest. is_other x (slice_get ys at) || rest) (behind_first y ys (suc at) xs)

  -- they are as long, and no two are unlike
  pub alike : ((x : X) → is_other x None ≡ true) → (ys : List Y) (xs : List X) → unlike is_other false ys 0 xs ≡ false
      → AllZip (λ x y. is_other x (Some y) ≡ false) xs ys
  unfolding unlike
  alike wants [] [] is = tt
  alike wants (y ∷ ys) [] is = absurd (grind arith)
  alike wants [] (x ∷ xs) is = clash (is_other x None) (wants x) (neither_first (is_other x None) (unlike is_other false [] 1 xs) is)
  alike wants (y ∷ ys) (x ∷ xs) is =
      let own = is_other x (Some y) in
      let rest = unlike is_other false (y ∷ ys) 1 xs in
      (neither_first own rest is, alike wants ys xs (sym (behind_first y ys 0 xs) ∙ neither_second own rest is))

-- a value behind its type, both without flaws
pub record IsSoundValue (us : Units) (own : Ty) (value : Operand) : Type 0 where
  pub sound : IsSound us own
  pub type : IsTy (replaced us own)
  pub good : IsGood (replaced us own) (operand_kept us own value)

-- the argument is such a value
abbrev pub IsSoundArg : Units → Arg → Type 0
IsSoundArg us (Value own left value) = IsSoundValue us own value
IsSoundArg us _ = ⊥

arg_sound : (us : Units) → IsFile us → (at : ℕ) (role : Role) → role ≡ Plain → (arg : Arg) → IsSaidArg arg
    → argument_flaw true us false at role arg ≡ None → IsSoundArg us arg
arg_sound us of at Plain plain (Value own left value) said none =
    let typed = type_flaw true us false Scalar own in
    let words = each word_flaw left in
    let given = operand_flaw true us false at own value in
    let role = role_flaw us Plain own value in
    let of_type : typed ≡ None = none_first typed (words then (given then role)) none in
    let of_rest : words then (given then role) ≡ None = none_second typed (words then (given then role)) none in
    let of_value = none_first given role (none_second words (given then role) of_rest) in
    let good = scalar_good us of at own value said.0 said.1 (then_none typed given of_type of_value) in
    record { sound = sound_of us Scalar own refl said.0 of_type; type = good.0; good = good.1 }
arg_sound us of at Plain plain (Word text) said none = absurd (grind arith)
arg_sound us of at Plain plain (Node name) said none = absurd (grind arith)
arg_sound us of at _ plain arg said none = absurd (grind arith)

-- where no argument is an identifier or a number, each is such a value
pub args_sound : (us : Units) → IsFile us → (at : ℕ) (intrinsic : Option Intrinsic) → ((place : ℕ) → role_of intrinsic place ≡ Plain)
    → (place : ℕ) (args : List Arg) → AllByRecursion IsSaidArg args → arguments_from true us false at intrinsic place args ≡ None
    → AllByRecursion (IsSoundArg us) args
unfolding arguments_from
args_sound us of at intrinsic plain place [] said none = tt
args_sound us of at intrinsic plain place (arg ∷ args) said none =
    let own = argument_flaw true us false at (role_of intrinsic place) arg in
    let rest = arguments_from true us false at intrinsic (suc place) args in (
      arg_sound us of at (role_of intrinsic place) (plain place) arg said.0 (none_first own rest none),
      args_sound us of at intrinsic plain (suc place) args said.1 (none_second own rest none),
    )

-- the types that a call writes
pub types_sound : (us : Units) → (types : List Ty) → AreSaidTys types → each (type_flaw true us false Scalar) types ≡ None
    → AllByRecursion (IsSound us) types
types_sound us [] said none = tt
types_sound us (type ∷ types) said none =
    let own = type_flaw true us false Scalar type in
    let rest = each (type_flaw true us false Scalar) types in
    (sound_of us Scalar type refl said.0 (none_first own rest none), types_sound us types said.1 (none_second own rest none))

-- an argument of no other type than is wanted
pub fits_type : (us : Units) → IsFile us → (type own : Ty) → IsSound us type → IsSound us own
    → is_metadata_type (out-Ty type) || differ us own type ≡ false → replaced us own ≡ replaced us type
fits_type us of type own sound also is =
    same_replaced us of own type also sound (neither_second (is_metadata_type (out-Ty type)) (differ us own type) is)

-- the values that are kept

pub values_keep : (us : Units) (args : List Arg) → AllByRecursion (IsSoundArg us) args → AllByRecursion IsKeptOperand (values_kept us args)
values_keep us [] are = tt
values_keep us (Value own left value ∷ args) are = (are.0.good.1, values_keep us args are.1)
values_keep us (Word text ∷ args) are = absurd are.0
values_keep us (Node name ∷ args) are = absurd are.0

own_types : (us : Units) (args : List Arg) → AllByRecursion (IsSoundArg us) args → AllZip IsArgument (types_kept us args) (values_kept us args)
own_types us [] are = tt
own_types us (Value own left value ∷ args) are = ((are.0.type, are.0.good.0), own_types us args are.1)
own_types us (Word text ∷ args) are = absurd are.0
own_types us (Node name ∷ args) are = absurd are.0

written_types : (us : Units) → IsFile us → (types : List Ty) (args : List Arg) → AllByRecursion (IsSound us) types
    → AllByRecursion (IsSoundArg us) args → AllZip (λ type arg. is_other_argument us type arg ≡ false) types args
    → AllZip IsArgument (map (replaced us) types) (values_kept us args)
written_types us of [] [] sound are fit = tt
written_types us of [] (arg ∷ args) sound are fit = absurd fit
written_types us of (type ∷ types) [] sound are fit = absurd fit
written_types us of (type ∷ types) (Value own left value ∷ args) sound are fit =
    let same = fits_type us of type own sound.0 are.0.sound fit.0 in
    (subst (λ t. IsArgument t (operand_kept us own value)) same (are.0.type, are.0.good.0), written_types us of types args sound.1 are.1 fit.1)
written_types us of (type ∷ types) (Word text ∷ args) sound are fit = absurd are.0
written_types us of (type ∷ types) (Node name ∷ args) sound are fit = absurd are.0

-- the arguments of a call that writes no `...`, beside the types of what it calls
pub arguments_written : (us : Units) → IsFile us → (whole : Option (List Ty)) (args : List Arg) → IfSome whole AreSaidTys
    → whole_flaw true us false whole ≡ None → AllByRecursion (IsSoundArg us) args → is_mistyped us false whole args ≡ false
    → AllZip IsArgument (parameters_kept us whole args) (values_kept us args)
arguments_written us of None args said none are typed = own_types us args are
arguments_written us of (Some types) args said none are typed =
    written_types us of types args (types_sound us types said none) are (alike (is_other_written us) (λ type. refl) args types typed)

-- the word `void` stands for itself

own_head : (us : Units) (type : Ty) → out-Ty type ≡ Ty-F.Void → head us type ≡ Some type
own_head us type is = ap (type_head (named_head us) type) is

void_layer : (us : Units) → IsFile us → (type : Ty) → IsSound us type → (layer : Ty-F Ty) → out-Ty type ≡ layer → is_void layer ≡ true
    → replaced us type ≡ ty.Void
void_layer us of type sound Ty-F.Void is void =
    let known = sound_head us of type sound in
    let same = same_Some known.known type (sym known.is ∙ own_head us type is) in
    subst (SoundLayer us (replaced us type)) (ap out-Ty same ∙ is) known.layer
void_layer us of type sound _ is void = absurd (grind arith)

pub void_word : (us : Units) → IsFile us → (type : Ty) → IsSound us type → is_void (out-Ty type) ≡ true → replaced us type ≡ ty.Void
void_word us of type sound void = void_layer us of type sound (out-Ty type) refl void
