-- Types as a text can write them.
-- Source: LLVM Language Reference, "Type System".
use Rattle.std.specs.Prelude.{◌≡◌, Bool, true, false, List, [], ◌∷◌, Option, Some, None, All}
use Rattle.std.specs.List.{list_any}
use Rattle.ltt_base.specs.declared.refusal.Placed.{Placed}
use Rattle.ir_values.specs.declared.types.Ty.{Ty, fold-Ty}
use Rattle.ir_values.specs.declared.types.Ty.TheOpen.{Ty-F}
use Rattle.ir_values.specs.declared.units.Unit.{Unit as TheUnit}
use Rattle.ir_values.specs.declared.units.Form.{Form}
use Rattle.ir_values.specs.declared.units.Form.TheVariants.{TypeForm, VariableForm}

abbrev pub pair_step : Ty-F Bool → Bool
pair_step Ty-F.Pair = true
pair_step (Ty-F.Array count part) = part
pair_step (Ty-F.Struct parts) = list_any (λ part. part) parts
pair_step _ = false

-- the pair that a checked load gives stands in the type
abbrev pub has_pair : Ty → Bool
has_pair = fold-Ty Bool pair_step

abbrev pub own_type : Option Ty → List Ty
own_type None = []
own_type (Some ty) = ty ∷ []

-- the types that a unit gives to a name or to a variable
abbrev pub types_in : Form → List Ty
types_in (TypeForm name ty) = own_type ty
types_in (VariableForm name linkage constant ty init align attached) = ty ∷ []
types_in _ = []

-- none of these types of a file holds a pair
abbrev pub AreWritten : List (Placed TheUnit) → Type 0
AreWritten us = All (λ u. All (λ ty. has_pair ty ≡ false) (types_in u.value.form)) us
