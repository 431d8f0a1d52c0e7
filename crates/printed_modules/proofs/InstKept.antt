-- Instructions that are read again are kept as they were.
use Rattle.std.proofs.Common.{◌≡◌, refl, sym, ap, ◌∙◌, ℕ, ◌<◌, nat_eq, true, not, cond, List, [], ◌∷◌, map, codes, Option, Some, None, arith}
use Rattle.std.proofs.Math.Nat.{mod-eq_of_lt}
use Rattle.std.proofs.lemmas.Bool.Decides.{nat_tests}
use Rattle.std.specs.List.{AllByRecursion}
use Rattle.ir_values.specs.declared.types.Width.{Width}
use Rattle.ir_values.specs.declared.types.Width.TheVariants.{W1, W8, W64}
use Rattle.ir_values.specs.declared.types.Ty.{Ty, out-Ty}
use Rattle.ir_values.specs.declared.types.Ty.TheVariants as ty
use Rattle.ir_values.specs.declared.types.Ty.TheVariants.{outs-Int}
use Rattle.ir_values.specs.declared.constants.Const.{out-Const}
use Rattle.ir_values.specs.declared.constants.Const.TheVariants as const
use Rattle.ir_values.specs.declared.constants.Const.TheVariants.{outs-Int as outs-Number}
use Rattle.ir_values.specs.declared.constants.Operand.{Operand}
use Rattle.ir_values.specs.declared.constants.Operand.TheVariants as operand
use Rattle.ir_values.specs.declared.instructions.Inst.{Inst}
use Rattle.ir_values.specs.declared.instructions.Inst.TheVariants as inst
use Rattle.ir_values.specs.declared.modules.Module.{Module}
use Rattle.ir_values.specs.declared.units.Arg.TheVariants.{Value}
use Rattle.ir_print.specs.declared.intrinsics.Intrinsic.{Intrinsic}
use Rattle.ir_print.specs.ModuleText.{is_call, is_called}
use Rattle.ir_numbers.specs.Numbers.{bits}
use Rattle.type_grammar.specs.Levels.{levels}
use Rattle.check_bodies.specs.Sorts.{is_void}
use Rattle.check_types.specs.Replaced.{replaced}
use Rattle.check_constants.specs.declared.intrinsics.Intrinsic.TheVariants.{Trap, CodedTrap, Rotate}
use Rattle.check_operands.specs.Operands.{operand_kept}
use Rattle.kept_parts.specs.Widths.{layer_width, width_of}
use Rattle.kept_parts.specs.CaseNumbers.{number_of}
use Rattle.kept_parts.specs.Arms.{kept_arms}
use Rattle.built_instructions.specs.Values.{width_or, width_at, number_or, layer_number, number_in, byte_of}
use Rattle.built_instructions.specs.Plain.{index_kept}
use Rattle.built_instructions.specs.Branches.{goal_of, goals_of, end_kept}
use Rattle.built_instructions.specs.Calls.{intrinsic_call}
use Rattle.built_instructions.specs.Instructions.{form_kept}
use Rattle.printed_units.specs.Written.{IsTy, IsOperand, IsIndex, IsArm, IsInst, IsReturned}
use Rattle.printed_units.specs.Said.{operand_said, index_said, arm_said, case_said, returned_said, global_said, value_said, trap_said, rotate_said, inst_said}
use Rattle.printed_modules.specs.Printed.{intrinsic_name, IsKeptOperand, IsKeptInst, maybe_operands}
use Rattle.printed_units.proofs.WrittenLemmas.{int_is_ty, ptr_is_ty}
use Rattle.printed_modules.proofs.Callees.{Knows, HasIntrinsic}
use Rattle.printed_modules.proofs.TypeKept.{Units, ty_replaced, integer_head}
use Rattle.printed_modules.proofs.ConstKept.{operand_again}
use Rattle.printed_modules.proofs.CallKept.{integer_again, call_again, intrinsic_called, intrinsic_kept}

-- an operand at a type, once it is read again
abbrev read : Units → Ty → Operand → Operand
read us type value = operand_kept us type (operand_said type value)

-- integers

width_again : (us : Units) (width : Width) → width_at us (ty.Int width) ≡ width
width_again us width =
    ap (λ type. width_or (width_of type)) (integer_head us width) ∙ ap (λ layer. width_or (layer_width layer)) (outs-Int width)

integer_operand : (us : Units) (width : Width) (value : Operand) → IsOperand (ty.Int width) value → IsKeptOperand value
    → read us (ty.Int width) value ≡ value
integer_operand us width value is kept_is = operand_again us (ty.Int width) value (int_is_ty width) is kept_is

pointer_operand : (us : Units) (value : Operand) → IsOperand ty.Ptr value → IsKeptOperand value
    → read us ty.Ptr value ≡ value
pointer_operand us value is kept_is = operand_again us ty.Ptr value ptr_is_ty is kept_is

byte_again : (n : ℕ) → n < 256 → byte_of n ≡ n
byte_again n small = mod-eq_of_lt small

-- indices of addresses, arms of phis and cases of switches

indices_again : (us : Units) (indices : List (Width × Operand)) → AllByRecursion IsIndex indices
    → AllByRecursion IsKeptOperand (map (λ index. index.1) indices) → map (index_kept us) (map index_said indices) ≡ indices
indices_again us [] are kept_are = refl
indices_again us (index ∷ indices) are kept_are =
    ap (λ width. (width, read us (ty.Int index.0) index.1) ∷ map (index_kept us) (map index_said indices))
    (width_again us index.0)
    ∙ ap (λ value. (index.0, value) ∷ map (index_kept us) (map index_said indices)) (integer_operand us index.0 index.1 are.0 kept_are.0)
    ∙ ap (λ rest. index ∷ rest) (indices_again us indices are.1 kept_are.1)

arms_again : (us : Units) (type : Ty) (arms : List (Operand × List ℕ)) → IsTy type → AllByRecursion (IsArm type) arms
    → AllByRecursion IsKeptOperand (map (λ arm. arm.0) arms) → kept_arms us type (map (arm_said type) arms) ≡ arms
arms_again us type [] is are kept_are = refl
arms_again us type (arm ∷ arms) is are kept_are =
    ap (λ value. (value, arm.1) ∷ kept_arms us type (map (arm_said type) arms)) (operand_again us type arm.0 is are.0.0 kept_are.0)
    ∙ ap (λ rest. arm ∷ rest) (arms_again us type arms is are.1 kept_are.1)

same_width : (n : ℕ) (goal : Option ℕ) → cond (nat_eq n n) goal None ≡ goal
same_width n goal = ap (λ same. cond same goal None) (equal n) where
  equal : (m : ℕ) → nat_eq m m ≡ true
  equal m = grind (arith, nat_tests)

case_again : (us : Units) (width : Width) (choice : ℕ × List ℕ) → goal_of us width (case_said width choice) ≡ choice
case_again us width choice =
    ap (λ constant. (number_or (number_of width (out-Const constant)), choice.1)) (integer_again us (Some (ty.Int width)) width choice.0)
    ∙ ap (λ layer. (number_or (number_of width layer), choice.1)) (outs-Number width choice.0)
    ∙ ap (λ number. (number_or number, choice.1)) (same_width (bits width) (Some choice.0))

cases_again : (us : Units) (width : Width) (cases : List (ℕ × List ℕ)) → goals_of us width (map (case_said width) cases) ≡ cases
cases_again us width [] = refl
cases_again us width (choice ∷ cases) =
    ap (λ first. first ∷ goals_of us width (map (case_said width) cases)) (case_again us width choice)
    ∙ ap (λ rest. choice ∷ rest) (cases_again us width cases)

return_again : (us : Units) (type : Ty) (value : Option Operand) → IsReturned type value → AllByRecursion IsKeptOperand (maybe_operands value)
    → end_kept us (returned_said type value) ≡ inst.Ret type value
return_again us type None is kept_is = ap (λ own. inst.Ret own None) (sym is)
return_again us type (Some value) is kept_is =
    ap (λ own. inst.Ret own (Some (read us type value))) (ty_replaced us levels type is.1)
    ∙ ap (λ v. inst.Ret type (Some v)) (operand_again us type value is.1 is.2 kept_is.0)

-- calls of intrinsics

number_again : (us : Units) (width : Width) (n : ℕ) → number_in (operand_kept us (ty.Int width) (operand.Const (const.Int width n))) ≡ n
number_again us width n =
    ap (λ constant. layer_number (out-Const constant)) (integer_again us (Some (ty.Int width)) width n) ∙ ap layer_number (outs-Number width n)

byte_number : (us : Units) (width : Width) (n : ℕ) → n < 256
    → byte_of (number_in (operand_kept us (ty.Int width) (operand.Const (const.Int width n)))) ≡ n
byte_number us width n small = ap byte_of (number_again us width n) ∙ byte_again n small

trap_again : (us : Units) (file next : ℕ) → HasIntrinsic us (intrinsic_name Intrinsic.Trap)
    → form_kept true us file next (trap_said None) ≡ Some (inst.Trap None)
unfolding intrinsic_call
trap_again us file next has =
    ap Some (intrinsic_kept us file next (not (is_void (out-Ty ty.Void))) None ty.Void (global_said (codes "llvm.trap")) [] Trap
    (intrinsic_called us (codes "llvm.trap") Trap refl refl has))

coded_trap_again : (us : Units) (file next code : ℕ) → HasIntrinsic us (intrinsic_name Intrinsic.CodedTrap) → code < 256
    → form_kept true us file next (trap_said (Some code)) ≡ Some (inst.Trap (Some code))
unfolding intrinsic_call
coded_trap_again us file next code has small =
    let args = Value (ty.Int W8) [] (operand.Const (const.Int W8 code)) ∷ [] in
    ap Some (intrinsic_kept us file next (not (is_void (out-Ty ty.Void))) None ty.Void (global_said (codes "llvm.ubsantrap")) args CodedTrap
    (intrinsic_called us (codes "llvm.ubsantrap") CodedTrap refl refl has)
    ∙ ap (λ n. inst.Trap (Some n)) (byte_number us W8 code small))

rotate_again : (us : Units) (file next : ℕ) (dst : List ℕ) (value : Operand) (by : ℕ) → HasIntrinsic us (intrinsic_name Intrinsic.Rotation)
    → IsOperand (ty.Int W64) value → IsKeptOperand value → by < 256
    → form_kept true us file next (rotate_said dst value by) ≡ Some (inst.Rotate dst value by)
unfolding intrinsic_call
rotate_again us file next dst value by has is kept_is small =
    let last = operand.Const (const.Int W64 by) in
    let args = value_said (ty.Int W64) value ∷ value_said (ty.Int W64) value ∷ Value (ty.Int W64) [] last ∷ [] in
    ap Some (intrinsic_kept us file next true (Some dst) (ty.Int W64) (global_said (codes "llvm.fshr.i64")) args Rotate
    (intrinsic_called us (codes "llvm.fshr.i64") Rotate refl refl has)
    ∙ ap (λ v. inst.Rotate dst v (byte_of (number_in (operand_kept us (ty.Int W64) last)))) (integer_operand us W64 value is kept_is)
    ∙ ap (inst.Rotate dst value) (byte_number us W64 by small))

-- calls of an instruction's intrinsic

called_trap : is_call Intrinsic.Trap (inst.Trap None) ≡ true
unfolding is_call
called_trap = refl

called_coded_trap : (code : ℕ) → is_call Intrinsic.CodedTrap (inst.Trap (Some code)) ≡ true
unfolding is_call
called_coded_trap code = refl

called_rotation : (dst : List ℕ) (value : Operand) (by : ℕ) → is_call Intrinsic.Rotation (inst.Rotate dst value by) ≡ true
unfolding is_call
called_rotation dst value by = refl

-- an instruction of an output becomes itself
pub inst_again : (us : Units) (m : Module) (file next : ℕ) (i : Inst) → Knows us m → IsInst i → IsKeptInst m.funcs i
    → ((intrinsic : Intrinsic) → is_call intrinsic i ≡ true → is_called intrinsic m.funcs ≡ true)
    → form_kept true us file next (inst_said i) ≡ Some i
inst_again us m file next (inst.Binary dst op width a b) knows is kept_is calls =
    ap (λ w. Some (inst.Binary dst op w (read us (ty.Int width) a)
    (read us (ty.Int width) b))) (width_again us width)
    ∙ ap (λ v. Some (inst.Binary dst op width v (read us (ty.Int width) b)))
    (integer_operand us width a is.1 kept_is.operands.0)
    ∙ ap (λ v. Some (inst.Binary dst op width a v)) (integer_operand us width b is.2 kept_is.operands.1.0)
inst_again us m file next (inst.Compare dst pred type a b) knows is kept_is calls =
    ap (λ t. Some (inst.Compare dst pred t (read us type a) (read us type b)))
    (ty_replaced us levels type is.1)
    ∙ ap (λ v. Some (inst.Compare dst pred type v (read us type b)))
    (operand_again us type a is.1 is.2 kept_is.operands.0)
    ∙ ap (λ v. Some (inst.Compare dst pred type a v)) (operand_again us type b is.1 is.3 kept_is.operands.1.0)
inst_again us m file next (inst.Select dst test type a b) knows is kept_is calls =
    ap (λ v. Some (inst.Select dst v (replaced us type) (read us type a) (read us type b)))
    (integer_operand us W1 test is.1 kept_is.operands.0)
    ∙ ap (λ t. Some (inst.Select dst test t (read us type a) (read us type b)))
    (ty_replaced us levels type is.2)
    ∙ ap (λ v. Some (inst.Select dst test type v (read us type b)))
    (operand_again us type a is.2 is.3 kept_is.operands.1.0)
    ∙ ap (λ v. Some (inst.Select dst test type a v)) (operand_again us type b is.2 is.4 kept_is.operands.1.1.0)
inst_again us m file next (inst.Cast dst op from a to) knows is kept_is calls =
    ap (λ w. Some (inst.Cast dst op w (read us (ty.Int from) a) (width_at us (ty.Int to))))
    (width_again us from)
    ∙ ap (λ v. Some (inst.Cast dst op from v (width_at us (ty.Int to)))) (integer_operand us from a is.1 kept_is.operands.0)
    ∙ ap (λ w. Some (inst.Cast dst op from a w)) (width_again us to)
inst_again us m file next (inst.Gep dst type base indices) knows is kept_is calls =
    ap (λ t. Some (inst.Gep dst t (read us ty.Ptr base) (map (index_kept us) (map index_said indices))))
    (ty_replaced us levels type is.1)
    ∙ ap (λ v. Some (inst.Gep dst type v (map (index_kept us) (map index_said indices)))) (pointer_operand us base is.2 kept_is.operands.0)
    ∙ ap (λ list. Some (inst.Gep dst type base list)) (indices_again us indices is.3 kept_is.operands.1)
inst_again us m file next (inst.Load dst type addr) knows is kept_is calls =
    ap (λ t. Some (inst.Load dst t (read us ty.Ptr addr))) (ty_replaced us levels type is.1)
    ∙ ap (λ v. Some (inst.Load dst type v)) (pointer_operand us addr is.2 kept_is.operands.0)
inst_again us m file next (inst.Store type value addr) knows is kept_is calls =
    ap (λ t. Some (inst.Store t (read us type value) (read us ty.Ptr addr)))
    (ty_replaced us levels type is.0)
    ∙ ap (λ v. Some (inst.Store type v (read us ty.Ptr addr)))
    (operand_again us type value is.0 is.1 kept_is.operands.0)
    ∙ ap (λ v. Some (inst.Store type value v)) (pointer_operand us addr is.2 kept_is.operands.1.0)
inst_again us m file next (inst.Call dst fty callee args) knows is kept_is calls =
    ap Some (call_again us m file next dst fty callee args knows kept_is.calls.0 kept_is.calls.1 is.1 is.2 is.3 kept_is.operands)
inst_again us m file next (inst.Extract dst pair part) knows is kept_is calls =
    ap (λ n. Some (inst.Extract dst pair n)) (byte_again part is.2)
inst_again us m file next (inst.Phi dst type arms) knows is kept_is calls =
    ap (λ t. Some (inst.Phi dst t (kept_arms us type (map (arm_said type) arms)))) (ty_replaced us levels type is.1)
    ∙ ap (λ list. Some (inst.Phi dst type list)) (arms_again us type arms is.1 is.3 kept_is.operands)
inst_again us m file next (inst.Br to) knows is kept_is calls = refl
inst_again us m file next (inst.CondBr test met unmet) knows is kept_is calls =
    ap (λ v. Some (inst.CondBr v met unmet)) (integer_operand us W1 test is.0 kept_is.operands.0)
inst_again us m file next (inst.Switch width value other cases) knows is kept_is calls =
    ap (λ w. Some (inst.Switch w (read us (ty.Int width) value) other
    (goals_of us w (map (case_said width) cases)))) (width_again us width)
    ∙ ap (λ v. Some (inst.Switch width v other (goals_of us width (map (case_said width) cases))))
    (integer_operand us width value is.0 kept_is.operands.0)
    ∙ ap (λ list. Some (inst.Switch width value other list)) (cases_again us width cases)
inst_again us m file next (inst.Ret type value) knows is kept_is calls = ap Some (return_again us type value is kept_is.operands)
inst_again us m file next inst.Unreachable knows is kept_is calls = refl
inst_again us m file next (inst.Trap None) knows is kept_is calls =
    trap_again us file next (knows.intrinsics Intrinsic.Trap (calls Intrinsic.Trap called_trap))
inst_again us m file next (inst.Trap (Some code)) knows is kept_is calls =
    coded_trap_again us file next code (knows.intrinsics Intrinsic.CodedTrap (calls Intrinsic.CodedTrap (called_coded_trap code))) is
inst_again us m file next (inst.Number dst ptr) knows is kept_is calls =
    ap (λ v. Some (inst.Number dst v)) (pointer_operand us ptr is.1 kept_is.operands.0)
inst_again us m file next (inst.Rotate dst value by) knows is kept_is calls =
    rotate_again us file next dst value by
    (knows.intrinsics Intrinsic.Rotation (calls Intrinsic.Rotation (called_rotation dst value by))) is.1 kept_is.operands.0 is.2
inst_again us m file next _ knows is kept_is calls = absurd is
