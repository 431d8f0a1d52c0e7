-- The flaws of a call.
-- Source: LLVM Language Reference, "'call' Instruction" and "'llvm.fshr.*' Intrinsic". Differs: the codes are this project's own; a call
-- of a left-out intrinsic is quiet, and has no flaw for a type that is known but differs or stands where it may not.
use Rattle.std.specs.Prelude.{ℕ, nat_lt, Bool, true, false, not, ◌&&◌, ◌||◌, List, [], ◌∷◌, Option, Some, None, is_some, codes}
use Rattle.ltt_base.specs.declared.refusal.Code.TheVariants.{E06, E07}
use Rattle.ltt_base.specs.declared.refusal.Placed.{Placed}
use Rattle.ir_values.specs.declared.types.Ty.{Ty, out-Ty}
use Rattle.ir_values.specs.declared.types.Ty.TheOpen.{Ty-F}
use Rattle.ir_values.specs.declared.constants.Const.{Const, out-Const}
use Rattle.ir_values.specs.declared.constants.Const.TheOpen.{Const-F}
use Rattle.ir_values.specs.declared.constants.Operand.{Operand}
use Rattle.ir_values.specs.declared.constants.Operand.TheVariants as operand
use Rattle.ir_values.specs.declared.units.Unit.{Unit}
use Rattle.ir_values.specs.declared.units.Head.{Head}
use Rattle.ir_values.specs.declared.units.Arg.{Arg}
use Rattle.ir_values.specs.Equality.{same_operand}
use Rattle.check_names.specs.declared.flaws.Flaw.{Flaw}
use Rattle.check_names.specs.Flaws.{◌then◌, each, when, worded_when}
use Rattle.check_types.specs.declared.places.Allowed.{Allowed}
use Rattle.check_types.specs.declared.places.Allowed.TheVariants.{NonVoid, Returned, Scalar}
use Rattle.check_types.specs.Heads.{head}
use Rattle.check_types.specs.Written.{type_flaw, is_void_head}
use Rattle.check_constants.specs.declared.intrinsics.Intrinsic.{Intrinsic}
use Rattle.check_constants.specs.declared.intrinsics.Intrinsic.TheVariants.{CheckedLoad, Rotate}
use Rattle.kept_parts.specs.Called.{called, called_intrinsic}
use Rattle.kept_parts.specs.ArgumentValues.{argument_kept}
use Rattle.check_calls.specs.Callees.{is_left_call, callee_flaw}
use Rattle.check_calls.specs.Arguments.{arguments_from}
use Rattle.check_calls.specs.Fitting.{is_misfit, is_mistyped}

-- a checked load gives more than one value
abbrev pub results : Option Intrinsic → Allowed
results (Some CheckedLoad) = NonVoid
results _ = Returned

-- the types of a call that writes its whole type
abbrev pub whole_flaw : Bool → List (Placed Unit) → Bool → Option (List Ty) → Option Flaw
whole_flaw output us quiet None = None
whole_flaw output us quiet (Some types) = each (type_flaw output us quiet Scalar) types

unfoldable pub written_flaw : Bool → List (Placed Unit) → Bool → Option Intrinsic → Ty → Option (List Ty) → Bool → Option Flaw
written_flaw output us quiet intrinsic result whole dots =
    type_flaw output us quiet (results intrinsic) result
    then (whole_flaw output us quiet whole then worded_when dots E07 (codes "..."))

-- a rotation is by a number below the width
abbrev pub is_shift_layer : Const-F Const Operand → Bool
is_shift_layer (Const-F.Int width n) = nat_lt n 64
is_shift_layer _ = false

abbrev pub is_shift : Operand → Bool
is_shift (operand.Reg name) = false
is_shift (operand.Const constant) = is_shift_layer (out-Const constant)

abbrev pub are_rotated : Option Operand → Option Operand → Option Operand → Bool
are_rotated (Some one) (Some other) (Some by) = same_operand one other && is_shift by
are_rotated _ _ _ = false

-- one value twice, and how far it is rotated
abbrev pub is_rotation : List (Placed Unit) → List Arg → Bool
is_rotation us (one ∷ other ∷ by ∷ []) = are_rotated (argument_kept us one) (argument_kept us other) (argument_kept us by)
is_rotation us _ = false

unfoldable pub rotation_flaw : List (Placed Unit) → Option Intrinsic → List Arg → Option Flaw
rotation_flaw us (Some Rotate) args = worded_when (not (is_rotation us args)) E07 (codes "@llvm.fshr.i64")
rotation_flaw us _ args = None

abbrev pub is_name : Ty-F Ty → Bool
is_name (Ty-F.Named name) = true
is_name _ = false

-- a `void` result that has a name, or that is written as a name of `void`: only the word itself takes no number
abbrev pub is_named_void : List (Placed Unit) → Option (List ℕ) → Ty → Bool
is_named_void us dst result = (is_some dst || is_name (out-Ty result)) && is_void_head (head us result)

unfoldable pub fit_flaw : List (Placed Unit) → Bool → Option Head → Option (List ℕ) → Ty → Option (List Ty) → Bool → List Arg → Option Flaw
fit_flaw us quiet function dst result whole dots args =
    when (not quiet && (is_named_void us dst result || (is_misfit us function result whole dots args || is_mistyped us dots whole args))) E06

abbrev pub bundle_flaw : Bool → Option Flaw
bundle_flaw bundle = worded_when bundle E07 (codes "[")

-- what is called, and with what
unfoldable pub parts_flaw : Bool → List (Placed Unit) → ℕ → Bool → Option Head → Option Intrinsic → Operand → List Arg → Option Flaw
parts_flaw output us head quiet function intrinsic callee args =
    callee_flaw output us head function callee
    then (arguments_from output us quiet head intrinsic 0 args then rotation_flaw us intrinsic args)

-- a call of a function, or through a value
unfoldable pub call_of : Bool → List (Placed Unit) → ℕ → Bool → Option Head → Option Intrinsic → Option (List ℕ) → Ty
    → Option (List Ty) → Bool → Operand → List Arg → Bool → Option Flaw
call_of output us head quiet function intrinsic dst result whole dots callee args bundle =
    written_flaw output us quiet intrinsic result whole dots
    then (parts_flaw output us head quiet function intrinsic callee args
    then (bundle_flaw bundle then fit_flaw us quiet function dst result whole dots args))

unfoldable pub call_to : Bool → List (Placed Unit) → ℕ → Option Head → Option (List ℕ) → Ty → Option (List Ty) → Bool → Operand
    → List Arg → Bool → Option Flaw
call_to output us head function dst result whole dots callee args bundle =
    call_of output us head (is_left_call output us function) function (called_intrinsic output us function) dst result whole dots callee
    args bundle

unfoldable pub call_flaw : Bool → List (Placed Unit) → ℕ → Option (List ℕ) → Ty → Option (List Ty) → Bool → Operand → List Arg
    → Bool → Option Flaw
call_flaw output us head dst result whole dots callee args bundle =
    call_to output us head (called us callee) dst result whole dots callee args bundle
