-- The flaws of a call's arguments.
-- Source: LLVM Language Reference, "'call' Instruction", "'llvm.type.test' Intrinsic", "'llvm.type.checked.load' Intrinsic" and
-- "'llvm.ubsantrap' Intrinsic". Differs: the codes are this project's own; identifiers that are nodes are distinct.
use Rattle.std.specs.Prelude.{ℕ, suc, nat_eq, Bool, true, false, not, ◌&&◌, cond, List, [], ◌∷◌, Option, Some, None, codes}
use Rattle.ltt_base.specs.declared.refusal.Code.TheVariants.{E06, E07, E08}
use Rattle.ltt_base.specs.declared.refusal.Placed.{Placed}
use Rattle.ir_values.specs.declared.types.Ty.{Ty}
use Rattle.ir_values.specs.declared.constants.Const.{Const, out-Const}
use Rattle.ir_values.specs.declared.constants.Const.TheOpen.{Const-F}
use Rattle.ir_values.specs.declared.constants.Operand.{Operand}
use Rattle.ir_values.specs.declared.constants.Operand.TheVariants as operand
use Rattle.ir_values.specs.declared.units.Unit.{Unit}
use Rattle.ir_values.specs.declared.units.Arg.{Arg}
use Rattle.ir_values.specs.declared.units.Arg.TheVariants.{Value, Word, Node}
use Rattle.ir_values.specs.declared.units.Form.{Form}
use Rattle.ir_values.specs.declared.units.Form.TheVariants as form
use Rattle.check_names.specs.declared.flaws.Flaw.{Flaw}
use Rattle.check_names.specs.declared.spaces.Space.TheVariants.{Nodes}
use Rattle.check_names.specs.Flaws.{◌then◌, each, when, worded_when}
use Rattle.check_names.specs.Spaces.{first_unit}
use Rattle.check_names.specs.Reserved.{use_flaw}
use Rattle.check_types.specs.declared.places.Allowed.TheVariants.{Scalar}
use Rattle.check_types.specs.Written.{type_flaw}
use Rattle.check_constants.specs.declared.intrinsics.Intrinsic.{Intrinsic}
use Rattle.check_constants.specs.declared.intrinsics.Intrinsic.TheVariants.{Test, CheckedLoad, CodedTrap}
use Rattle.check_calls.specs.declared.arguments.Role.{Role}
use Rattle.check_calls.specs.declared.arguments.Role.TheVariants.{Plain, Identifier, Offset, TrapCode}
use Rattle.check_operands.specs.Operands.{operand_flaw, operand_kept}

-- what an argument is to the function that is called
abbrev pub role_of : Option Intrinsic → ℕ → Role
role_of (Some Test) at = cond (nat_eq at 1) Identifier Plain
role_of (Some CheckedLoad) at = cond (nat_eq at 2) Identifier (cond (nat_eq at 1) Offset Plain)
role_of (Some CodedTrap) at = cond (nat_eq at 0) TrapCode Plain
role_of _ at = Plain

abbrev pub is_identifier : Role → Bool
is_identifier Identifier = true
is_identifier _ = false

abbrev pub is_number_layer : Const-F Const Operand → Bool
is_number_layer (Const-F.Int width n) = true
is_number_layer _ = false

-- a kept operand that is a number
abbrev pub is_number : Operand → Bool
is_number (operand.Reg name) = false
is_number (operand.Const constant) = is_number_layer (out-Const constant)

-- what must be a number and is none
abbrev pub no_number_flaw : List (Placed Unit) → List ℕ → Ty → Operand → Option Flaw
no_number_flaw us word ty value = worded_when (not (is_number (operand_kept us ty value))) E07 word

abbrev pub role_flaw : List (Placed Unit) → Role → Ty → Operand → Option Flaw
role_flaw us Offset ty value = no_number_flaw us (codes "@llvm.type.checked.load") ty value
role_flaw us TrapCode ty value = no_number_flaw us (codes "@llvm.ubsantrap") ty value
role_flaw us _ ty value = None

-- a word that is left out
abbrev pub word_flaw : List ℕ → Option Flaw
word_flaw word = worded_when true E07 word

abbrev pub typed_flaw : Bool → List (Placed Unit) → Bool → ℕ → Role → Ty → List (List ℕ) → Operand → Option Flaw
typed_flaw output us quiet head role ty left value =
    type_flaw output us quiet Scalar ty
    then (each word_flaw left then (operand_flaw output us quiet head ty value then role_flaw us role ty value))

abbrev pub is_distinct_form : Form → Bool
is_distinct_form (form.MetadataForm name distinct items) = distinct
is_distinct_form _ = false

abbrev pub is_distinct_unit : Option (Placed Unit) → Bool
is_distinct_unit None = false
is_distinct_unit (Some u) = is_distinct_form u.value.form

-- a node that stands for an identifier
abbrev pub node_flaw : Bool → List (Placed Unit) → List ℕ → Option Flaw
node_flaw output us name =
    use_flaw output us Nodes name then when (not (is_distinct_unit (first_unit Nodes name us))) E08

-- metadata where a value should stand
abbrev pub metadata_flaw : Bool → Role → Option Flaw
metadata_flaw quiet role = when (not quiet && not (is_identifier role)) E06

abbrev pub argument_flaw : Bool → List (Placed Unit) → Bool → ℕ → Role → Arg → Option Flaw
argument_flaw output us quiet head role (Value ty left value) = typed_flaw output us quiet head role ty left value
argument_flaw output us quiet head role (Word text) = metadata_flaw quiet role
argument_flaw output us quiet head role (Node name) = cond (is_identifier role) (node_flaw output us name) (metadata_flaw quiet role)

-- the arguments from a place on
unfoldable pub arguments_from : Bool → List (Placed Unit) → Bool → ℕ → Option Intrinsic → ℕ → List Arg → Option Flaw
arguments_from output us quiet head intrinsic at [] = None
arguments_from output us quiet head intrinsic at (arg ∷ args) =
    argument_flaw output us quiet head (role_of intrinsic at) arg
    then arguments_from output us quiet head intrinsic (suc at) args
