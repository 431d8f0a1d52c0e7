-- Whether a call fits the function that it calls, and its written type.
-- Source: LLVM Language Reference, "'call' Instruction".
use Rattle.std.specs.Prelude.{ℕ, suc, nat_lt, Bool, true, false, not, ◌&&◌, ◌||◌, List, [], ◌∷◌, length, slice_get, Option, Some, None, is_some}
use Rattle.ltt_base.specs.declared.refusal.Placed.{Placed}
use Rattle.ir_values.specs.declared.types.Ty.{Ty, out-Ty}
use Rattle.ir_values.specs.declared.units.Unit.{Unit}
use Rattle.ir_values.specs.declared.units.Head.{Head}
use Rattle.ir_values.specs.declared.units.Param.{Param}
use Rattle.ir_values.specs.declared.units.Arg.{Arg}
use Rattle.ir_values.specs.declared.units.Arg.TheVariants.{Value, Word, Node}
use Rattle.check_types.specs.Heads.{head}
use Rattle.check_types.specs.Differences.{differ}
use Rattle.check_types.specs.Written.{is_metadata_type}

-- items from a place on and others from there on: two are unlike, or there are more of one sort than of the other; there may be more of
-- the others where that is allowed
unfoldable pub unlike : {X Y : Type 0} → (X → Option Y → Bool) → Bool → List Y → ℕ → List X → Bool
unlike is_other more ys at [] = nat_lt at (length ys) && not more
unlike is_other more ys at (x ∷ xs) = is_other x (slice_get ys at) || unlike is_other more ys (suc at) xs

-- an argument of another type than is wanted. Only `metadata` fits a parameter of this type
abbrev pub is_other_argument : List (Placed Unit) → Ty → Arg → Bool
is_other_argument us ty (Value own left value) = is_metadata_type (out-Ty ty) || differ us own ty
is_other_argument us ty (Word text) = is_some (head us ty)
is_other_argument us ty (Node name) = is_some (head us ty)

-- no argument, or another one, for a parameter
abbrev pub is_other_for : List (Placed Unit) → Param → Option Arg → Bool
is_other_for us param None = true
is_other_for us param (Some arg) = is_other_argument us param.ty arg

-- no written type, or another one, for a parameter
abbrev pub is_other_type : List (Placed Unit) → Param → Option Ty → Bool
is_other_type us param None = true
is_other_type us param (Some ty) = differ us ty param.ty

-- no argument, or another one, for a written type
abbrev pub is_other_written : List (Placed Unit) → Ty → Option Arg → Bool
is_other_written us ty None = true
is_other_written us ty (Some arg) = is_other_argument us ty arg

-- the written parameters, or else the arguments, aren't those of the function
abbrev pub is_unfit : List (Placed Unit) → Head → Option (List Ty) → List Arg → Bool
is_unfit us function None args = unlike (is_other_for us) false args 0 function.params
is_unfit us function (Some types) args = unlike (is_other_type us) false types 0 function.params

-- `...` stands in one of two types alone
abbrev pub is_one : Bool → Bool → Bool
is_one dots others = (dots && not others) || (not dots && others)

-- a direct call of another type than its function's
abbrev pub is_misfit : List (Placed Unit) → Option Head → Ty → Option (List Ty) → Bool → List Arg → Bool
is_misfit us None result whole dots args = false
is_misfit us (Some function) result whole dots args =
    differ us result function.result || (is_one dots function.dots || is_unfit us function whole args)

-- arguments that don't fit the type that the call writes
abbrev pub is_mistyped : List (Placed Unit) → Bool → Option (List Ty) → List Arg → Bool
is_mistyped us dots None args = false
is_mistyped us dots (Some types) args = unlike (is_other_written us) dots args 0 types
