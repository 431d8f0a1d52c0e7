-- Instructions that end a block, as a module keeps them.
-- Source: LLVM Language Reference, "Terminator Instructions". Differs: a case is kept as its number.
use Rattle.std.specs.Prelude.{ℕ, List, map, Some, None}
use Rattle.ltt_base.specs.declared.refusal.Placed.{Placed}
use Rattle.ir_values.specs.declared.types.Width.{Width}
use Rattle.ir_values.specs.declared.types.Ty.{Ty}
use Rattle.ir_values.specs.declared.types.Ty.TheVariants.{Void}
use Rattle.ir_values.specs.declared.constants.Operand.{Operand}
use Rattle.ir_values.specs.declared.instructions.Inst.{Inst}
use Rattle.ir_values.specs.declared.instructions.Inst.TheVariants.{Br, CondBr, Switch, Ret, Unreachable}
use Rattle.ir_values.specs.declared.units.Unit as unit
use Rattle.ir_values.specs.declared.units.BranchText.{BranchText}
use Rattle.ir_values.specs.declared.units.BranchText.TheVariants as branch
use Rattle.ir_values.specs.declared.units.EndText.{EndText}
use Rattle.ir_values.specs.declared.units.EndText.TheVariants as end
use Rattle.check_types.specs.Replaced.{replaced}
use Rattle.check_operands.specs.Made.{bit}
use Rattle.check_operands.specs.Operands.{operand_kept}
use Rattle.kept_parts.specs.CaseNumbers.{Case, case_number}
use Rattle.built_instructions.specs.Values.{width_at, number_or}

-- the number and the label of a case of a switch on integers of a width
abbrev pub goal_of : List (Placed unit.Unit) → Width → Case → ℕ × List ℕ
goal_of us width case = (number_or (case_number us width case), case.2)

abbrev pub goals_of : List (Placed unit.Unit) → Width → List Case → List (ℕ × List ℕ)
goals_of us width cases = map (goal_of us width) cases

abbrev pub switch_kept : List (Placed unit.Unit) → Ty → Operand → List ℕ → List Case → Inst
switch_kept us ty value other cases =
    Switch (width_at us ty) (operand_kept us ty value) other (goals_of us (width_at us ty) cases)

abbrev pub jump_kept : List ℕ → Inst
jump_kept to = Br to

abbrev pub fork_kept : List (Placed unit.Unit) → Operand → List ℕ → List ℕ → Inst
fork_kept us test one other = CondBr (operand_kept us bit test) one other

abbrev pub branch_kept : List (Placed unit.Unit) → BranchText → Inst
branch_kept us (branch.Br to) = jump_kept to
branch_kept us (branch.CondBr test one other) = fork_kept us test one other
branch_kept us (branch.Switch ty value other cases) = switch_kept us ty value other cases

abbrev pub return_kept : List (Placed unit.Unit) → Ty → Operand → Inst
return_kept us ty value = Ret (replaced us ty) (Some (operand_kept us ty value))

abbrev pub end_kept : List (Placed unit.Unit) → EndText → Inst
end_kept us end.RetVoid = Ret Void None
end_kept us (end.Ret ty value) = return_kept us ty value
end_kept us end.Unreachable = Unreachable
