-- What `==` computes for each type: whether two values are one.
use Rattle.std.specs.Prelude.{◌≡◌, ◌↔◌, Bool, IsTrue}
use Rattle.std.specs.Cmp.{IsPartialEquivalence}
use Rattle.ltt_base.specs.Equal.{same, same_laws, decides_same}
use Rattle.ir_values.specs.declared.types.Ty.{Ty}
use Rattle.ir_values.specs.declared.types.FuncTy.{FuncTy}
use Rattle.ir_values.specs.declared.constants.Const.{Const}
use Rattle.ir_values.specs.declared.constants.Operand.{Operand}
use Rattle.ir_values.specs.declared.instructions.Callee.{Callee}
use Rattle.ir_values.specs.declared.instructions.Inst.{Inst}
use Rattle.ir_values.specs.declared.modules.TypeId.{TypeId}
use Rattle.ir_values.specs.declared.modules.Entry.{Entry}
use Rattle.ir_values.specs.declared.modules.Block.{Block}
use Rattle.ir_values.specs.declared.modules.Func.{Func}
use Rattle.ir_values.specs.declared.modules.Var.{Var}
use Rattle.ir_values.specs.declared.modules.Jump.{Jump}
use Rattle.ir_values.specs.declared.modules.Module.{Module}
use Rattle.ir_values.specs.contracts.types.Ty as ty_type
use Rattle.ir_values.specs.contracts.types.FuncTy as func_ty_type
use Rattle.ir_values.specs.contracts.constants.Const as const_type
use Rattle.ir_values.specs.contracts.constants.Operand as operand_type
use Rattle.ir_values.specs.contracts.instructions.Callee as callee_type
use Rattle.ir_values.specs.contracts.instructions.Inst as inst_type
use Rattle.ir_values.specs.contracts.modules.TypeId as type_id_type
use Rattle.ir_values.specs.contracts.modules.Entry as entry_type
use Rattle.ir_values.specs.contracts.modules.Block as block_type
use Rattle.ir_values.specs.contracts.modules.Func as func_type
use Rattle.ir_values.specs.contracts.modules.Var as var_type
use Rattle.ir_values.specs.contracts.modules.Jump as jump_type
use Rattle.ir_values.specs.contracts.modules.Module as module_type

unfoldable pub same_ty : Ty → Ty → Bool
same_ty = same ty_type.the_row.coded

pub same_ty-laws : IsPartialEquivalence same_ty
unfolding same_ty
same_ty-laws = same_laws ty_type.the_row.coded

pub same_ty_decides : (one two : Ty) (test : Bool) → IsTrue test ↔ (one ≡ two) → test ≡ same_ty one two
unfolding same_ty
same_ty_decides = decides_same ty_type.the_row.coded

unfoldable pub same_func_ty : FuncTy → FuncTy → Bool
same_func_ty = same func_ty_type.the_row.coded

pub same_func_ty-laws : IsPartialEquivalence same_func_ty
unfolding same_func_ty
same_func_ty-laws = same_laws func_ty_type.the_row.coded

pub same_func_ty_decides : (one two : FuncTy) (test : Bool) → IsTrue test ↔ (one ≡ two) → test ≡ same_func_ty one two
unfolding same_func_ty
same_func_ty_decides = decides_same func_ty_type.the_row.coded

unfoldable pub same_const : Const → Const → Bool
same_const = same const_type.the_row.coded

pub same_const-laws : IsPartialEquivalence same_const
unfolding same_const
same_const-laws = same_laws const_type.the_row.coded

pub same_const_decides : (one two : Const) (test : Bool) → IsTrue test ↔ (one ≡ two) → test ≡ same_const one two
unfolding same_const
same_const_decides = decides_same const_type.the_row.coded

unfoldable pub same_operand : Operand → Operand → Bool
same_operand = same operand_type.the_row.coded

pub same_operand-laws : IsPartialEquivalence same_operand
unfolding same_operand
same_operand-laws = same_laws operand_type.the_row.coded

pub same_operand_decides : (one two : Operand) (test : Bool) → IsTrue test ↔ (one ≡ two) → test ≡ same_operand one two
unfolding same_operand
same_operand_decides = decides_same operand_type.the_row.coded

unfoldable pub same_callee : Callee → Callee → Bool
same_callee = same callee_type.the_row.coded

pub same_callee-laws : IsPartialEquivalence same_callee
unfolding same_callee
same_callee-laws = same_laws callee_type.the_row.coded

pub same_callee_decides : (one two : Callee) (test : Bool) → IsTrue test ↔ (one ≡ two) → test ≡ same_callee one two
unfolding same_callee
same_callee_decides = decides_same callee_type.the_row.coded

unfoldable pub same_inst : Inst → Inst → Bool
same_inst = same inst_type.the_row.coded

pub same_inst-laws : IsPartialEquivalence same_inst
unfolding same_inst
same_inst-laws = same_laws inst_type.the_row.coded

pub same_inst_decides : (one two : Inst) (test : Bool) → IsTrue test ↔ (one ≡ two) → test ≡ same_inst one two
unfolding same_inst
same_inst_decides = decides_same inst_type.the_row.coded

unfoldable pub same_type_id : TypeId → TypeId → Bool
same_type_id = same type_id_type.the_row.coded

pub same_type_id-laws : IsPartialEquivalence same_type_id
unfolding same_type_id
same_type_id-laws = same_laws type_id_type.the_row.coded

pub same_type_id_decides : (one two : TypeId) (test : Bool) → IsTrue test ↔ (one ≡ two) → test ≡ same_type_id one two
unfolding same_type_id
same_type_id_decides = decides_same type_id_type.the_row.coded

unfoldable pub same_entry : Entry → Entry → Bool
same_entry = same entry_type.the_row.coded

pub same_entry-laws : IsPartialEquivalence same_entry
unfolding same_entry
same_entry-laws = same_laws entry_type.the_row.coded

pub same_entry_decides : (one two : Entry) (test : Bool) → IsTrue test ↔ (one ≡ two) → test ≡ same_entry one two
unfolding same_entry
same_entry_decides = decides_same entry_type.the_row.coded

unfoldable pub same_block : Block → Block → Bool
same_block = same block_type.the_row.coded

pub same_block-laws : IsPartialEquivalence same_block
unfolding same_block
same_block-laws = same_laws block_type.the_row.coded

pub same_block_decides : (one two : Block) (test : Bool) → IsTrue test ↔ (one ≡ two) → test ≡ same_block one two
unfolding same_block
same_block_decides = decides_same block_type.the_row.coded

unfoldable pub same_func : Func → Func → Bool
same_func = same func_type.the_row.coded

pub same_func-laws : IsPartialEquivalence same_func
unfolding same_func
same_func-laws = same_laws func_type.the_row.coded

pub same_func_decides : (one two : Func) (test : Bool) → IsTrue test ↔ (one ≡ two) → test ≡ same_func one two
unfolding same_func
same_func_decides = decides_same func_type.the_row.coded

unfoldable pub same_var : Var → Var → Bool
same_var = same var_type.the_row.coded

pub same_var-laws : IsPartialEquivalence same_var
unfolding same_var
same_var-laws = same_laws var_type.the_row.coded

pub same_var_decides : (one two : Var) (test : Bool) → IsTrue test ↔ (one ≡ two) → test ≡ same_var one two
unfolding same_var
same_var_decides = decides_same var_type.the_row.coded

unfoldable pub same_jump : Jump → Jump → Bool
same_jump = same jump_type.the_row.coded

pub same_jump-laws : IsPartialEquivalence same_jump
unfolding same_jump
same_jump-laws = same_laws jump_type.the_row.coded

pub same_jump_decides : (one two : Jump) (test : Bool) → IsTrue test ↔ (one ≡ two) → test ≡ same_jump one two
unfolding same_jump
same_jump_decides = decides_same jump_type.the_row.coded

unfoldable pub same_module : Module → Module → Bool
same_module = same module_type.the_row.coded

pub same_module-laws : IsPartialEquivalence same_module
unfolding same_module
same_module-laws = same_laws module_type.the_row.coded

pub same_module_decides : (one two : Module) (test : Bool) → IsTrue test ↔ (one ≡ two) → test ≡ same_module one two
unfolding same_module
same_module_decides = decides_same module_type.the_row.coded
