-- Calls as a module keeps them: those of an intrinsic as an instruction of its own.
-- Source: LLVM Language Reference, "'call' Instruction" and "Intrinsic Functions". Differs: a call writes the type of what it calls, and a
-- direct one the function's name, by whatever constant it is called.
use Rattle.std.specs.Prelude.{ℕ, Bool, cond, List, map, Option, Some, None}
use Rattle.ltt_base.specs.declared.refusal.Placed.{Placed}
use Rattle.ir_values.specs.declared.types.Ty.{Ty}
use Rattle.ir_values.specs.declared.types.Ty.TheVariants.{Ptr}
use Rattle.ir_values.specs.declared.types.FuncTy.{FuncTy}
use Rattle.ir_values.specs.declared.constants.Operand.{Operand}
use Rattle.ir_values.specs.declared.instructions.Callee.{Callee}
use Rattle.ir_values.specs.declared.instructions.Inst.{Inst}
use Rattle.ir_values.specs.declared.instructions.Inst.TheVariants as inst
use Rattle.ir_values.specs.declared.units.Unit as unit
use Rattle.ir_values.specs.declared.units.Head.{Head}
use Rattle.ir_values.specs.declared.units.Arg.{Arg}
use Rattle.check_bodies.specs.Numbers.{name_or}
use Rattle.check_types.specs.Replaced.{replaced}
use Rattle.check_constants.specs.declared.intrinsics.Intrinsic.{Intrinsic}
use Rattle.check_constants.specs.declared.intrinsics.Intrinsic.TheVariants.{Test, CheckedLoad, Assume, Trap, CodedTrap, Rotate}
use Rattle.check_operands.specs.Operands.{operand_kept}
use Rattle.kept_parts.specs.Called.{called, called_intrinsic}
use Rattle.built_instructions.specs.Values.{byte_of, offset_of}
use Rattle.built_instructions.specs.Arguments.{values_kept, types_kept, value_at, number_at, id_at}

-- the types of the parameters: the written ones, or else those of the arguments
abbrev pub parameters_kept : List (Placed unit.Unit) → Option (List Ty) → List Arg → List Ty
parameters_kept us None args = types_kept us args
parameters_kept us (Some types) args = map (replaced us) types

-- the type of what is called
abbrev pub function_type : List (Placed unit.Unit) → Ty → Option (List Ty) → List Arg → FuncTy
function_type us result whole args = record { result = replaced us result; params = parameters_kept us whole args }

-- a function that is called directly, or else a pointer
abbrev pub callee_kept : List (Placed unit.Unit) → Option Head → Operand → Callee
callee_kept us None callee = Callee.Value (operand_kept us Ptr callee)
callee_kept us (Some function) callee = Callee.Function function.name

-- the register of a call that has a result
abbrev pub result_name : ℕ → Bool → Option (List ℕ) → Option (List ℕ)
result_name next named dst = cond named (Some (name_or next dst)) None

-- a call of no intrinsic
unfoldable pub plain_call : List (Placed unit.Unit) → ℕ → Bool → Option (List ℕ) → Option Head → Ty → Option (List Ty) → Operand → List Arg
    → Inst
plain_call us next named dst function result whole callee args =
    inst.Call (result_name next named dst) (function_type us result whole args) (callee_kept us function callee) (values_kept us args)

abbrev pub test_call : List (Placed unit.Unit) → ℕ → ℕ → Option (List ℕ) → List Arg → Inst
test_call us file next dst args = inst.Test (name_or next dst) (value_at us args 0) (id_at file args 1)

abbrev pub checked_call : List (Placed unit.Unit) → ℕ → ℕ → Option (List ℕ) → List Arg → Inst
checked_call us file next dst args =
    inst.CheckedLoad (name_or next dst) (value_at us args 0) (offset_of (number_at us args 1)) (id_at file args 2)

abbrev pub assume_call : List (Placed unit.Unit) → List Arg → Inst
assume_call us args = inst.Assume (value_at us args 0)

abbrev pub coded_trap_call : List (Placed unit.Unit) → List Arg → Inst
coded_trap_call us args = inst.Trap (Some (byte_of (number_at us args 0)))

-- the first two arguments are one value
abbrev pub rotate_call : List (Placed unit.Unit) → ℕ → Option (List ℕ) → List Arg → Inst
rotate_call us next dst args = inst.Rotate (name_or next dst) (value_at us args 0) (byte_of (number_at us args 2))

-- a call of an intrinsic
unfoldable pub intrinsic_call : List (Placed unit.Unit) → ℕ → ℕ → Option (List ℕ) → Intrinsic → List Arg → Inst
intrinsic_call us file next dst Test args = test_call us file next dst args
intrinsic_call us file next dst CheckedLoad args = checked_call us file next dst args
intrinsic_call us file next dst Assume args = assume_call us args
intrinsic_call us file next dst Trap args = inst.Trap None
intrinsic_call us file next dst CodedTrap args = coded_trap_call us args
intrinsic_call us file next dst Rotate args = rotate_call us next dst args

abbrev pub call_of : List (Placed unit.Unit) → ℕ → ℕ → Bool → Option (List ℕ) → Option Intrinsic → Option Head → Ty → Option (List Ty)
    → Operand → List Arg → Inst
call_of us file next named dst None function result whole callee args = plain_call us next named dst function result whole callee args
call_of us file next named dst (Some intrinsic) function result whole callee args = intrinsic_call us file next dst intrinsic args

-- a call, in the file of a number; `named` tells whether it has a result
unfoldable pub call_kept : Bool → List (Placed unit.Unit) → ℕ → ℕ → Bool → Option (List ℕ) → Ty → Option (List Ty) → Operand → List Arg
    → Inst
call_kept output us file next named dst result whole callee args =
    call_of us file next named dst (called_intrinsic output us (called us callee)) (called us callee) result whole callee args
