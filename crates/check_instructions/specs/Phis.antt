-- The flaws of a phi, apart from those of its arms' labels as a whole.
-- Source: LLVM Language Reference, "'phi' Instruction". Differs: the codes are this project's own.
use Rattle.std.specs.Prelude.{ℕ, Bool, true, false, not, find, List, Option, Some, None}
use Rattle.std.specs.List.{list_any}
use Rattle.std.specs.Str.{bytes_eq}
use Rattle.ltt_base.specs.declared.refusal.Code.TheVariants.{E03}
use Rattle.ltt_base.specs.declared.refusal.Placed.{Placed}
use Rattle.ir_values.specs.declared.types.Ty.{Ty}
use Rattle.ir_values.specs.declared.constants.Operand.{Operand}
use Rattle.ir_values.specs.declared.units.Unit.{Unit}
use Rattle.ir_values.specs.Equality.{same_operand}
use Rattle.check_names.specs.declared.flaws.Flaw.{Flaw}
use Rattle.check_names.specs.Flaws.{◌then◌, each, when}
use Rattle.check_types.specs.declared.places.Allowed.TheVariants.{Scalar}
use Rattle.check_types.specs.Written.{type_flaw}
use Rattle.check_operands.specs.Operands.{label_flaw, operand_flaw}
use Rattle.kept_parts.specs.Arms.{Arm, kept_arms}

abbrev pub arm_flaw : Bool → List (Placed Unit) → ℕ → Ty → Arm → Option Flaw
arm_flaw output us head ty arm = operand_flaw output us false head ty arm.0 then label_flaw output us head arm.1

abbrev pub has_label : List ℕ → Arm → Bool
has_label label arm = bytes_eq arm.1 label

abbrev pub is_value : Operand → Option Arm → Bool
is_value value None = true
is_value value (Some arm) = same_operand arm.0 value

-- the value differs from that of the first arm with this label
abbrev pub is_second_value : List Arm → Arm → Bool
is_second_value arms arm = not (is_value arm.0 (find (has_label arm.1) arms))

-- one label has two values
abbrev pub are_torn : List Arm → Bool
are_torn arms = list_any (is_second_value arms) arms

abbrev pub torn_flaw : List (Placed Unit) → Ty → List Arm → Option Flaw
torn_flaw us ty arms = when (are_torn (kept_arms us ty arms)) E03

abbrev pub phi_flaw : Bool → List (Placed Unit) → ℕ → Ty → List Arm → Option Flaw
phi_flaw output us head ty arms =
    torn_flaw us ty arms
    then (type_flaw output us false Scalar ty then each (arm_flaw output us head ty) arms)
