-- What is wrong with what a call calls.
-- Source: LLVM Language Reference, "'call' Instruction" and "Intrinsic Functions".
use Rattle.std.specs.Prelude.{ℕ, Bool, false, cond, List, Option, Some, None, codes}
use Rattle.ltt_base.specs.declared.refusal.Code.TheVariants.{E07}
use Rattle.ltt_base.specs.declared.refusal.Placed.{Placed}
use Rattle.ir_values.specs.declared.types.Ty.TheVariants.{Ptr}
use Rattle.ir_values.specs.declared.constants.Operand.{Operand}
use Rattle.ir_values.specs.declared.units.Unit.{Unit}
use Rattle.ir_values.specs.declared.units.Head.{Head}
use Rattle.check_names.specs.declared.flaws.Flaw.{Flaw}
use Rattle.check_names.specs.Flaws.{named_when}
use Rattle.check_constants.specs.Intrinsics.{is_declared_intrinsic, is_left_intrinsic}
use Rattle.check_operands.specs.Operands.{operand_flaw}

-- it is an intrinsic that is left out, so that the call is quiet
abbrev pub is_left_call : Bool → List (Placed Unit) → Option Head → Bool
is_left_call output us None = false
is_left_call output us (Some function) = is_left_intrinsic output us function.name

abbrev pub is_intrinsic_call : List (Placed Unit) → Option Head → Bool
is_intrinsic_call us None = false
is_intrinsic_call us (Some function) = is_declared_intrinsic us function.name

abbrev pub left_call_flaw : Bool → List (Placed Unit) → Option Head → Option Flaw
left_call_flaw output us None = None
left_call_flaw output us (Some function) = named_when (is_left_intrinsic output us function.name) E07 (codes "@") function.name

-- the callee: an intrinsic that may be called, or a value at `ptr`
abbrev pub callee_flaw : Bool → List (Placed Unit) → ℕ → Option Head → Operand → Option Flaw
callee_flaw output us head function callee = cond (is_intrinsic_call us function)
    (left_call_flaw output us function) (operand_flaw output us false head Ptr callee)
