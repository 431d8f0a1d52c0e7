-- What the units of a printed module say.
-- Source: LLVM Language Reference, "Constants", "Instruction Reference", "Global Variables" and "Functions". Differs: tables of functions
-- have lines of their own (docs/texts.md).
use Rattle.std.specs.Prelude.{ℕ, zero, suc, nat_eq, false, cond, List, [], ◌∷◌, map, codes, Option, Some, None}
use Rattle.ir_values.specs.declared.types.Width.{Width}
use Rattle.ir_values.specs.declared.types.Width.TheVariants.{W1, W8, W64}
use Rattle.ir_values.specs.declared.types.Ty.{Ty, out-Ty}
use Rattle.ir_values.specs.declared.types.Ty.TheVariants as ty
use Rattle.ir_values.specs.declared.types.Ty.TheOpen.{Ty-F}
use Rattle.ir_values.specs.declared.constants.Const.{Const, out-Const}
use Rattle.ir_values.specs.declared.constants.Const.TheVariants as const
use Rattle.ir_values.specs.declared.constants.Const.TheOpen.{Const-F}
use Rattle.ir_values.specs.declared.constants.Operand.{Operand}
use Rattle.ir_values.specs.declared.constants.Operand.TheVariants as operand
use Rattle.ir_values.specs.declared.instructions.Callee.{Callee}
use Rattle.ir_values.specs.declared.instructions.Inst.{Inst}
use Rattle.ir_values.specs.declared.instructions.Inst.TheVariants as inst
use Rattle.ir_values.specs.declared.modules.Linkage.{Linkage}
use Rattle.ir_values.specs.declared.modules.Linkage.TheVariants.{Private}
use Rattle.ir_values.specs.declared.modules.Func.{Func}
use Rattle.ir_values.specs.declared.modules.Var.{Var}
use Rattle.ir_values.specs.declared.modules.Jump.{Jump}
use Rattle.ir_values.specs.declared.units.Param.{Param}
use Rattle.ir_values.specs.declared.units.Head.{Head}
use Rattle.ir_values.specs.declared.units.Arg.{Arg}
use Rattle.ir_values.specs.declared.units.Arg.TheVariants.{Value}
use Rattle.ir_values.specs.declared.units.BranchText.TheVariants as branch
use Rattle.ir_values.specs.declared.units.EndText.{EndText}
use Rattle.ir_values.specs.declared.units.EndText.TheVariants as end
use Rattle.ir_values.specs.declared.units.Form.{Form}
use Rattle.ir_values.specs.declared.units.Form.TheVariants as form
use Rattle.type_grammar.specs.Levels.{levels}
use Rattle.ir_print.specs.declared.intrinsics.Intrinsic.{Intrinsic}

-- the address so many bytes behind a global
abbrev pub address_said : List ℕ → ℕ → Const
address_said name offset = cond (nat_eq offset 0)
    (const.Addr name 0)
    (const.Gep (ty.Int W8) (const.Addr name 0) (operand.Const (const.Typed (ty.Int W64) (const.Int W64 offset)) ∷ []))

abbrev pub part_said : (Ty → Const → Const) → Ty → Const → Const
part_said said type part = const.Typed type (said type part)

abbrev pub fields_said : (Ty → Const → Const) → List Ty → List Const → List Const
fields_said said (type ∷ types) (part ∷ parts) = part_said said type part ∷ fields_said said types parts
fields_said said _ _ = []

abbrev pub struct_said : (Ty → Const → Const) → Ty-F Ty → List Const → Const
struct_said said (Ty-F.Struct types) parts = const.Struct (fields_said said types parts)
struct_said said _ parts = const.Struct parts

abbrev pub layer_said : (Ty → Const → Const) → Ty → Const → Const-F Const Operand → Const
layer_said said type constant (Const-F.Addr name offset) = address_said name offset
layer_said said type constant (Const-F.Zero own) = const.Zero type
layer_said said type constant (Const-F.Array part parts) = const.Array part (map (part_said said part) parts)
layer_said said type constant (Const-F.Struct parts) = struct_said said (out-Ty type) parts
layer_said said type constant _ = constant

-- what the text of a constant at a type says, in its first so many levels: parts stand behind their types
abbrev pub said_within : ℕ → Ty → Const → Const
said_within zero type constant = constant
said_within (suc n) type constant = layer_said (said_within n) type constant (out-Const constant)

abbrev pub const_said : Ty → Const → Const
const_said type constant = said_within levels type constant

abbrev pub operand_said : Ty → Operand → Operand
operand_said type (operand.Reg name) = operand.Reg name
operand_said type (operand.Const constant) = operand.Const (const_said type constant)

abbrev pub global_said : List ℕ → Operand
global_said name = operand.Const (const.Addr name 0)

abbrev pub callee_said : Callee → Operand
callee_said (Callee.Function name) = global_said name
callee_said (Callee.Value value) = operand_said ty.Ptr value

abbrev pub value_said : Ty → Operand → Arg
value_said type value = Value type [] (operand_said type value)

abbrev pub args_said : List Ty → List Operand → List Arg
args_said (type ∷ types) (value ∷ values) = value_said type value ∷ args_said types values
args_said _ _ = []

abbrev pub index_said : Width × Operand → Ty × Operand
index_said index = (ty.Int index.0, operand_said (ty.Int index.0) index.1)

abbrev pub arm_said : Ty → Operand × List ℕ → Operand × List ℕ
arm_said type arm = (operand_said type arm.0, arm.1)

abbrev pub case_said : Width → ℕ × List ℕ → Ty × Const × List ℕ
case_said width choice = (ty.Int width, const.Int width choice.0, choice.1)

abbrev pub returned_said : Ty → Option Operand → EndText
returned_said type None = end.RetVoid
returned_said type (Some value) = end.Ret type (operand_said type value)

abbrev pub call_said : Option (List ℕ) → Ty → Operand → List Arg → Form
call_said dst result callee args = form.CallForm dst result None false callee args false

abbrev pub trap_said : Option ℕ → Form
trap_said None = call_said None ty.Void (global_said (codes "llvm.trap")) []
trap_said (Some code) =
    call_said None ty.Void (global_said (codes "llvm.ubsantrap")) (Value (ty.Int W8) [] (operand.Const (const.Int W8 code)) ∷ [])

abbrev pub rotate_said : List ℕ → Operand → ℕ → Form
rotate_said dst value by =
    call_said (Some dst) (ty.Int W64) (global_said (codes "llvm.fshr.i64"))
    (value_said (ty.Int W64) value ∷ value_said (ty.Int W64) value ∷ Value (ty.Int W64) [] (operand.Const (const.Int W64 by)) ∷ [])

-- what the line of an instruction says; those of sources alone are not printed in outputs
abbrev pub inst_said : Inst → Form
inst_said (inst.Binary dst op width a b) =
    form.BinaryForm (Some dst) op (ty.Int width) (operand_said (ty.Int width) a) (operand_said (ty.Int width) b)
inst_said (inst.Compare dst pred type a b) = form.CompareForm (Some dst) pred type (operand_said type a) (operand_said type b)
inst_said (inst.Select dst test type a b) =
    form.SelectForm (Some dst) (ty.Int W1) (operand_said (ty.Int W1) test) type (operand_said type a) type (operand_said type b)
inst_said (inst.Cast dst op from a to) = form.CastForm (Some dst) op (ty.Int from) (operand_said (ty.Int from) a) (ty.Int to)
inst_said (inst.Gep dst type base indices) = form.AddressForm (Some dst) type (operand_said ty.Ptr base) (map index_said indices)
inst_said (inst.Load dst type addr) = form.LoadForm (Some dst) type (operand_said ty.Ptr addr)
inst_said (inst.Store type value addr) = form.StoreForm type (operand_said type value) (operand_said ty.Ptr addr)
inst_said (inst.Call dst fty callee args) = call_said dst fty.result (callee_said callee) (args_said fty.params args)
inst_said (inst.Extract dst pair part) = form.ExtractForm (Some dst) (operand.Reg pair) (Some part)
inst_said (inst.Phi dst type arms) = form.PhiForm (Some dst) type (map (arm_said type) arms)
inst_said (inst.Br to) = form.BranchForm (branch.Br to)
inst_said (inst.CondBr test met unmet) = form.BranchForm (branch.CondBr (operand_said (ty.Int W1) test) met unmet)
inst_said (inst.Switch width value other cases) =
    form.BranchForm (branch.Switch (ty.Int width) (operand_said (ty.Int width) value) other (map (case_said width) cases))
inst_said (inst.Ret type value) = form.EndForm (returned_said type value)
inst_said inst.Unreachable = form.EndForm end.Unreachable
inst_said (inst.Trap code) = trap_said code
inst_said (inst.Number dst ptr) = form.NumberForm (Some dst) (operand_said ty.Ptr ptr)
inst_said (inst.Rotate dst value by) = rotate_said dst value by
inst_said _ = form.CloseForm

-- `private`, or no word
abbrev pub linkage_word : Linkage → Option (List ℕ)
linkage_word Private = Some (codes "private")
linkage_word _ = None

abbrev pub content_word : Linkage → Option Const → Option (List ℕ)
content_word linkage None = Some (codes "external")
content_word linkage (Some constant) = linkage_word linkage

abbrev pub init_said : Ty → Option Const → Option Const
init_said type None = None
init_said type (Some constant) = Some (const_said type constant)

abbrev pub var_said : Var → Form
var_said v = form.VariableForm v.name (content_word v.linkage v.init) v.constant v.ty (init_said v.ty v.init) (Some (Some v.align)) []

abbrev pub table_said : Jump → Form
table_said table = form.TableForm table.name table.funcs

abbrev pub param_said : Ty → Option (List ℕ) → Param
param_said type name = record { ty = type; left = []; name = name }

abbrev pub params_said : List Ty → List (List ℕ) → List Param
params_said (type ∷ types) (name ∷ names) = param_said type (Some name) ∷ params_said types names
params_said _ _ = []

abbrev pub head_said : List ℕ → Option (List ℕ) → Ty → List Param → Head
head_said name linkage result params = record {
  name = name;
  linkage = linkage;
  result = result;
  params = params;
  dots = false;
  left = [];
  attached = [];
}

-- parameters of these types, without names
abbrev pub unnamed : List Ty → List Param
unnamed types = map (λ type. param_said type None) types

abbrev pub declare_said : List ℕ → Ty → List Ty → Form
declare_said name result types = form.DeclareForm (head_said name None result (unnamed types))

abbrev pub define_said : Func → Form
define_said f = form.DefineForm (head_said f.name (linkage_word f.linkage) f.fty.result (params_said f.fty.params f.params))

-- the declaration of an intrinsic
abbrev pub intrinsic_said : Intrinsic → Form
intrinsic_said Intrinsic.Rotation = declare_said (codes "llvm.fshr.i64") (ty.Int W64) (ty.Int W64 ∷ ty.Int W64 ∷ ty.Int W64 ∷ [])
intrinsic_said Intrinsic.Trap = declare_said (codes "llvm.trap") ty.Void []
intrinsic_said Intrinsic.CodedTrap = declare_said (codes "llvm.ubsantrap") ty.Void (ty.Int W8 ∷ [])
