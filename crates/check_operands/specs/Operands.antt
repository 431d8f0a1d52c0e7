-- The flaws of what instructions read, and of labels.
-- Source: LLVM Language Reference, "Identifiers" and "Instruction Reference". Differs: the codes are this project's own; that a definition
-- dominates its uses isn't asked.
use Rattle.std.specs.Prelude.{ℕ, Bool, not, ◌&&◌, List, Option, Some, None, codes}
use Rattle.ltt_base.specs.declared.refusal.Code.TheVariants.{E06}
use Rattle.ltt_base.specs.declared.refusal.Placed.{Placed}
use Rattle.ir_values.specs.declared.types.Ty.{Ty}
use Rattle.ir_values.specs.declared.constants.Operand.{Operand}
use Rattle.ir_values.specs.declared.constants.Operand.TheVariants as operand
use Rattle.ir_values.specs.declared.units.Unit.{Unit}
use Rattle.check_names.specs.declared.flaws.Flaw.{Flaw}
use Rattle.check_names.specs.Flaws.{◌then◌, when}
use Rattle.check_names.specs.Reserved.{reserved_flaw}
use Rattle.check_bodies.specs.declared.names.Asked.{Asked}
use Rattle.check_bodies.specs.declared.names.Asked.TheVariants.{Labels, Values}
use Rattle.check_bodies.specs.Bodies.{missing_flaw}
use Rattle.check_types.specs.declared.places.Allowed.{Allowed}
use Rattle.check_types.specs.Differences.{differ}
use Rattle.check_types.specs.Written.{type_flaw}
use Rattle.check_constants.specs.Judged.{constant_flaw}
use Rattle.check_constants.specs.Kept.{kept}
use Rattle.check_operands.specs.Registers.{register_type}

-- a type that differs from the one wanted
abbrev pub other_flaw : List (Placed Unit) → Bool → Ty → Ty → Option Flaw
other_flaw us quiet own ty = when (not quiet && differ us own ty) E06

-- the same where it is known
abbrev pub known_flaw : List (Placed Unit) → Bool → Option Ty → Ty → Option Flaw
known_flaw us quiet None ty = None
known_flaw us quiet (Some own) ty = other_flaw us quiet own ty

-- a name of a label or of a value, in the function whose head stands at a place
abbrev pub local_flaw : Bool → List (Placed Unit) → ℕ → Asked → List ℕ → Option Flaw
local_flaw output us head asked name = missing_flaw us head asked name then reserved_flaw output (codes "%") name

abbrev pub label_flaw : Bool → List (Placed Unit) → ℕ → List ℕ → Option Flaw
label_flaw output us head name = local_flaw output us head Labels name

-- a register at a type
abbrev pub register_flaw : Bool → List (Placed Unit) → Bool → ℕ → Ty → List ℕ → Option Flaw
register_flaw output us quiet head ty name =
    local_flaw output us head Values name then known_flaw us quiet (register_type us head name) ty

-- a register or a constant at a type
abbrev pub operand_flaw : Bool → List (Placed Unit) → Bool → ℕ → Ty → Operand → Option Flaw
operand_flaw output us quiet head ty (operand.Reg name) = register_flaw output us quiet head ty name
operand_flaw output us quiet head ty (operand.Const constant) = constant_flaw output us quiet (Some ty) constant

-- an operand behind its written type, which is one of those allowed
abbrev pub value_flaw : Bool → List (Placed Unit) → Bool → ℕ → Allowed → Ty → Operand → Option Flaw
value_flaw output us quiet head allowed ty value =
    type_flaw output us quiet allowed ty then operand_flaw output us quiet head ty value

-- an operand at a type as a module keeps it
abbrev pub operand_kept : List (Placed Unit) → Ty → Operand → Operand
operand_kept us ty (operand.Reg name) = operand.Reg name
operand_kept us ty (operand.Const constant) = operand.Const (kept us (Some ty) constant)
