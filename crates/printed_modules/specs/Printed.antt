-- Modules as they are printed: their order, their types and constants, and their names.
-- Source: LLVM Language Reference, "Module Structure". Differs: declarations stand before definitions, a variable without an initialiser is
-- one, four linkages are told apart, and each constant has one form.
use Rattle.std.specs.Prelude.{◌≡◌, ℕ, zero, suc, ◌≤◌, nat_eq, Bool, true, false, not, ◌&&◌, ◌||◌, if◌then◌else◌, List, [], ◌∷◌, ◌++◌, map, filter, codes, decimal, Option, Some, None}
use Rattle.std.specs.List.{list_all, list_any, AllByRecursion}
use Rattle.std.specs.Str.{bytes_eq}
use Rattle.ltt_base.specs.declared.refusal.Place.{Place}
use Rattle.ir_values.specs.declared.types.Ty.{Ty, out-Ty}
use Rattle.ir_values.specs.declared.types.Ty.TheVariants as ty
use Rattle.ir_values.specs.declared.constants.Const.{Const, out-Const}
use Rattle.ir_values.specs.declared.constants.Const.TheOpen.{Const-F}
use Rattle.ir_values.specs.declared.constants.Operand.{Operand}
use Rattle.ir_values.specs.declared.constants.Operand.TheVariants as operand
use Rattle.ir_values.specs.declared.instructions.Callee.{Callee}
use Rattle.ir_values.specs.declared.instructions.Inst.{Inst}
use Rattle.ir_values.specs.declared.instructions.Inst.TheVariants as inst
use Rattle.ir_values.specs.declared.modules.Linkage.{Linkage}
use Rattle.ir_values.specs.declared.modules.Linkage.TheVariants.{Strong, Weak, External}
use Rattle.ir_values.specs.declared.modules.Block.{Block}
use Rattle.ir_values.specs.declared.modules.Func.{Func}
use Rattle.ir_values.specs.declared.modules.Var.{Var}
use Rattle.ir_values.specs.declared.modules.Jump.{Jump}
use Rattle.ir_values.specs.declared.modules.Module.{Module}
use Rattle.type_grammar.specs.Levels.{levels}
use Rattle.ir_print.specs.declared.intrinsics.Intrinsic.{Intrinsic}
use Rattle.ir_print.specs.ModuleText.{is_called, has_none}
use Rattle.check_names.specs.Reserved.{is_intrinsic}
use Rattle.check_types.specs.Measures.{align}
use Rattle.check_constants.specs.Keeping.{are_zero, is_byte_layer}
use Rattle.printed_units.specs.Written.{IsWritten}

-- the outermost layer of a constant in the one form in which a module keeps it, where P tells of its parts: no aggregate of zeros alone, and
-- no array of bytes part by part
abbrev pub KeptLayer : (Const → Type 0) → Const-F Const Operand → Type 0
KeptLayer P (Const-F.Array part parts) = (are_zero parts ≡ false) × (is_byte_layer (out-Ty part) ≡ false) × AllByRecursion P parts
KeptLayer P (Const-F.Struct parts) = (are_zero parts ≡ false) × AllByRecursion P parts
KeptLayer P (Const-F.Bytes text) = list_all (λ byte. nat_eq byte 0) text ≡ false
KeptLayer P _ = Unit {0}

abbrev pub IsKeptWithin : ℕ → Const → Type 0
IsKeptWithin zero constant = ⊥
IsKeptWithin (suc n) constant = KeptLayer (IsKeptWithin n) (out-Const constant)

abbrev pub IsKept : Const → Type 0
IsKept constant = IsKeptWithin levels constant

abbrev pub IsKeptOperand : Operand → Type 0
IsKeptOperand (operand.Reg name) = Unit {0}
IsKeptOperand (operand.Const constant) = IsKept constant

abbrev pub callee_operands : Callee → List Operand
callee_operands (Callee.Function name) = []
callee_operands (Callee.Value value) = value ∷ []

abbrev pub maybe_operands : Option Operand → List Operand
maybe_operands None = []
maybe_operands (Some value) = value ∷ []

-- what an instruction reads
abbrev pub operands_of : Inst → List Operand
operands_of (inst.Binary dst op width a b) = a ∷ b ∷ []
operands_of (inst.Compare dst pred type a b) = a ∷ b ∷ []
operands_of (inst.Select dst test type a b) = test ∷ a ∷ b ∷ []
operands_of (inst.Cast dst op from a to) = a ∷ []
operands_of (inst.Gep dst type base indices) = base ∷ map (λ index. index.1) indices
operands_of (inst.Load dst type addr) = addr ∷ []
operands_of (inst.Store type value addr) = value ∷ addr ∷ []
operands_of (inst.Call dst fty callee args) = callee_operands callee ++ args
operands_of (inst.Phi dst type arms) = map (λ arm. arm.0) arms
operands_of (inst.CondBr test met unmet) = test ∷ []
operands_of (inst.Switch width value other cases) = value ∷ []
operands_of (inst.Ret type value) = maybe_operands value
operands_of (inst.Number dst ptr) = ptr ∷ []
operands_of (inst.Rotate dst value by) = value ∷ []
operands_of _ = []

-- a function of this name is declared or defined
abbrev pub is_function : List Func → List ℕ → Bool
is_function funcs name = list_any (λ f. bytes_eq f.name name) funcs

abbrev pub intrinsic_name : Intrinsic → List ℕ
intrinsic_name Intrinsic.Rotation = codes "llvm.fshr.i64"
intrinsic_name Intrinsic.Trap = codes "llvm.trap"
intrinsic_name Intrinsic.CodedTrap = codes "llvm.ubsantrap"

abbrev pub called_names : List Func → Intrinsic → List (List ℕ)
called_names funcs intrinsic = if is_called intrinsic funcs then intrinsic_name intrinsic ∷ [] else []

-- the names of the intrinsics that the text declares, which are those that are called
abbrev pub intrinsics_of : List Func → List (List ℕ)
intrinsics_of funcs = called_names funcs Intrinsic.Rotation ++ (called_names funcs Intrinsic.Trap ++ called_names funcs Intrinsic.CodedTrap)

abbrev pub is_called_name : List Func → List ℕ → Bool
is_called_name funcs name = list_any (λ called. bytes_eq called name) (intrinsics_of funcs)

abbrev pub is_function_layer : List Func → Const-F Const Operand → Bool
is_function_layer funcs (Const-F.Addr name offset) = nat_eq offset 0 && (is_function funcs name || is_called_name funcs name)
is_function_layer funcs _ = false

-- the operand is the address of a function, or of an intrinsic that the text declares
abbrev pub is_function_operand : List Func → Operand → Bool
is_function_operand funcs (operand.Reg name) = false
is_function_operand funcs (operand.Const constant) = is_function_layer funcs (out-Const constant)

-- a function is called by its name, and any other callee is the address of none
abbrev pub IsCalled : List Func → Callee → Type 0
IsCalled funcs (Callee.Function name) = is_function funcs name ≡ true
IsCalled funcs (Callee.Value value) = is_function_operand funcs value ≡ false

-- only a call of type `void` sets no register
abbrev pub IsSet : Option (List ℕ) → Ty → Type 0
IsSet None result = result ≡ ty.Void
IsSet (Some dst) result = Unit {0}

abbrev pub CallsAreKept : List Func → Inst → Type 0
CallsAreKept funcs (inst.Call dst fty callee args) = IsSet dst fty.result × IsCalled funcs callee
CallsAreKept funcs _ = Unit {0}

pub record IsKeptInst (funcs : List Func) (i : Inst) : Type 0 where
  pub operands : AllByRecursion IsKeptOperand (operands_of i)
  pub calls : CallsAreKept funcs i

abbrev pub IsKeptBlock : List Func → Block → Type 0
IsKeptBlock funcs block = AllByRecursion (IsKeptInst funcs) block.insts

-- a declaration is external, and a definition isn't
abbrev pub LinkageFits : Bool → Linkage → Type 0
LinkageFits declared External = declared ≡ true
LinkageFits declared _ = declared ≡ false

pub record IsKeptFunc (funcs : List Func) (f : Func) : Type 0 where
  pub linkage : LinkageFits (has_none f.blocks) f.linkage
  pub entries : f.entries ≡ []
  pub blocks : AllByRecursion (IsKeptBlock funcs) f.blocks

abbrev pub IsKeptInit : Option Const → Type 0
IsKeptInit None = Unit {0}
IsKeptInit (Some constant) = IsKept constant

abbrev pub has_no_init : Option Const → Bool
has_no_init None = true
has_no_init (Some constant) = false

-- a variable has at least the alignment of its type
pub record IsKeptVar (v : Var) : Type 0 where
  pub linkage : LinkageFits (has_no_init v.init) v.linkage
  pub init : IsKeptInit v.init
  pub align : align [] v.ty ≤ v.align
  pub entries : v.entries ≡ []
  pub visibility : v.visibility ≡ 0

abbrev pub is_declared : Func → Bool
is_declared f = has_none f.blocks

-- declarations before definitions, each sort in its order
abbrev pub declared_first : List Func → List Func
declared_first funcs = filter is_declared funcs ++ filter (λ f. not (is_declared f)) funcs

-- the names of all globals of the text
abbrev pub globals_of : Module → List (List ℕ)
globals_of m = (map (λ v. v.name) m.vars ++ map (λ table. table.name) m.jumps) ++ (intrinsics_of m.funcs ++ map (λ f. f.name) m.funcs)

abbrev pub AreApart : List (List ℕ) → Type 0
AreApart [] = Unit {0}
AreApart (name ∷ names) = (list_any (bytes_eq name) names ≡ false) × AreApart names

-- A module that is as a printed one: it can be read again; declarations stand before definitions; constants, calls and linkages are in
-- the one form in which a module keeps them; each global has a name of its own; and no function is an intrinsic.
pub record IsPrinted (m : Module) : Type 0 where
  pub written : IsWritten m
  pub order : m.funcs ≡ declared_first m.funcs
  pub vars : AllByRecursion IsKeptVar m.vars
  pub funcs : AllByRecursion (IsKeptFunc m.funcs) m.funcs
  pub apart : AreApart (globals_of m)
  pub no_intrinsic : AllByRecursion (λ f. is_intrinsic f.name ≡ false) m.funcs

-- What a text doesn't tell is taken away: places, whether an item is weak, and the names of a declaration's parameters, which become
-- their positions.

abbrev pub no_place : Place
no_place = record { file = 0; line = 0; column = 0 }

abbrev pub strong : Linkage → Linkage
strong Weak = Strong
strong linkage = linkage

abbrev pub positions : ℕ → List Ty → List (List ℕ)
positions at [] = []
positions at (type ∷ types) = decimal at ∷ positions (suc at) types

abbrev pub plain_params : Func → List (List ℕ)
plain_params f = if has_none f.blocks then positions 0 f.fty.params else f.params

abbrev pub plain_func : Func → Func
plain_func f = record f { place = no_place; linkage = strong f.linkage; params = plain_params f }

abbrev pub plain_var : Var → Var
plain_var v = record v { place = no_place; linkage = strong v.linkage }

abbrev pub plain_table : Jump → Jump
plain_table table = record table { place = no_place }

abbrev pub plain : Module → Module
plain m = record { vars = map plain_var m.vars; funcs = map plain_func m.funcs; jumps = map plain_table m.jumps }
