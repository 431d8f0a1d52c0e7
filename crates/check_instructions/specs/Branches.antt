-- The flaws of instructions that end a block.
-- Source: LLVM Language Reference, "Terminator Instructions". Differs: the codes are this project's own.
use Rattle.std.specs.Prelude.{ℕ, Bool, true, false, List, Option, Some, None}
use Rattle.ltt_base.specs.declared.refusal.Placed.{Placed}
use Rattle.ir_values.specs.declared.types.Ty.{Ty}
use Rattle.ir_values.specs.declared.types.Ty.TheVariants.{Void}
use Rattle.ir_values.specs.declared.constants.Operand.{Operand}
use Rattle.ir_values.specs.declared.units.Unit.{Unit}
use Rattle.ir_values.specs.declared.units.Head.{Head}
use Rattle.ir_values.specs.declared.units.BranchText.{BranchText}
use Rattle.ir_values.specs.declared.units.BranchText.TheVariants.{Br, CondBr, Switch}
use Rattle.ir_values.specs.declared.units.EndText.{EndText}
use Rattle.ir_values.specs.declared.units.EndText.TheVariants.{RetVoid, Ret, Unreachable}
use Rattle.check_names.specs.declared.flaws.Flaw.{Flaw}
use Rattle.check_names.specs.Flaws.{◌then◌}
use Rattle.check_types.specs.declared.places.Allowed.TheVariants.{Scalar, Integer}
use Rattle.check_operands.specs.Made.{bit}
use Rattle.check_operands.specs.Registers.{head_at}
use Rattle.check_operands.specs.Operands.{other_flaw, label_flaw, operand_flaw, value_flaw}
use Rattle.kept_parts.specs.CaseNumbers.{Case}
use Rattle.check_instructions.specs.Cases.{cases_flaw}

abbrev pub fork_flaw : Bool → List (Placed Unit) → ℕ → Operand → List ℕ → List ℕ → Option Flaw
fork_flaw output us head test one other =
    operand_flaw output us false head bit test
    then (label_flaw output us head one then label_flaw output us head other)

abbrev pub switch_flaw : Bool → List (Placed Unit) → ℕ → Ty → Operand → List ℕ → List Case → Option Flaw
switch_flaw output us head ty value other cases =
    value_flaw output us false head Integer ty value
    then (label_flaw output us head other then cases_flaw output us head ty cases)

abbrev pub branch_flaw : Bool → List (Placed Unit) → ℕ → BranchText → Option Flaw
branch_flaw output us head (Br to) = label_flaw output us head to
branch_flaw output us head (CondBr test one other) = fork_flaw output us head test one other
branch_flaw output us head (Switch ty value other cases) = switch_flaw output us head ty value other cases

-- a returned type that differs from the function's result
abbrev pub returned_flaw : List (Placed Unit) → Option Head → Ty → Option Flaw
returned_flaw us None ty = None
returned_flaw us (Some head) ty = other_flaw us false ty head.result

abbrev pub ret_flaw : Bool → List (Placed Unit) → ℕ → Ty → Operand → Option Flaw
ret_flaw output us head ty value = value_flaw output us false head Scalar ty value then returned_flaw us (head_at us head) ty

abbrev pub end_flaw : Bool → List (Placed Unit) → ℕ → EndText → Option Flaw
end_flaw output us head RetVoid = returned_flaw us (head_at us head) Void
end_flaw output us head (Ret ty value) = ret_flaw output us head ty value
end_flaw output us head Unreachable = None
