-- What can be read again: names, types, constants and instructions as a printed module has them.
-- Source: LLVM Language Reference, "Identifiers", "Type System", "Constants" and "Instruction Reference". Differs: types have no names of
-- their own, and of constants only those that a module keeps stand there.
use Rattle.std.specs.Prelude.{◌≡◌, ℕ, zero, suc, ◌^◌, ◌<◌, ◌≤◌, nat_lt, Bool, true, false, List, [], ◌∷◌, length, Option, Some, None}
use Rattle.std.specs.List.{list_all, AllByRecursion, AllZip}
use Rattle.ir_values.specs.declared.types.Width.{Width}
use Rattle.ir_values.specs.declared.types.Width.TheVariants.{W1, W8, W64}
use Rattle.ir_values.specs.declared.types.Ty.{Ty, out-Ty}
use Rattle.ir_values.specs.declared.types.Ty.TheVariants as ty
use Rattle.ir_values.specs.declared.types.Ty.TheOpen.{Ty-F}
use Rattle.ir_values.specs.declared.constants.Const.{Const, out-Const}
use Rattle.ir_values.specs.declared.constants.Const.TheOpen.{Const-F}
use Rattle.ir_values.specs.declared.constants.Operand.{Operand}
use Rattle.ir_values.specs.declared.constants.Operand.TheVariants as operand
use Rattle.ir_values.specs.declared.instructions.Callee.{Callee}
use Rattle.ir_values.specs.declared.instructions.Inst.{Inst}
use Rattle.ir_values.specs.declared.instructions.Inst.TheVariants as inst
use Rattle.ir_values.specs.declared.modules.Block.{Block}
use Rattle.ir_values.specs.declared.modules.Func.{Func}
use Rattle.ir_values.specs.declared.modules.Var.{Var}
use Rattle.ir_values.specs.declared.modules.Jump.{Jump}
use Rattle.ir_values.specs.declared.modules.Module.{Module}
use Rattle.ir_numbers.specs.Numbers.{bits}
use Rattle.type_grammar.specs.Levels.{levels}
use Rattle.ir_names.specs.Names.{is_decimal, is_number}

abbrev pub IsBytes : List ℕ → Type 0
IsBytes text = list_all (λ byte. nat_lt byte 256) text ≡ true

-- a name is any text of bytes, but no decimal of 2^32 or more
pub record IsName (name : List ℕ) : Type 0 where
  pub bytes : IsBytes name
  pub small : is_decimal name ≡ true → is_number name ≡ true

-- the outermost layer of a type, where P tells of its parts
abbrev pub TyLayer : (Ty → Type 0) → Ty-F Ty → Type 0
TyLayer P Ty-F.Void = Unit {0}
TyLayer P (Ty-F.Int width) = Unit {0}
TyLayer P Ty-F.Ptr = Unit {0}
TyLayer P (Ty-F.Array count part) = (count < 2 ^ 64) × P part
TyLayer P (Ty-F.Struct parts) = AllByRecursion P parts
TyLayer P _ = ⊥

-- a type that is written out, of at most so many levels
abbrev pub IsTyWithin : ℕ → Ty → Type 0
IsTyWithin zero type = ⊥
IsTyWithin (suc n) type = TyLayer (IsTyWithin n) (out-Ty type)

abbrev pub IsTy : Ty → Type 0
IsTy type = IsTyWithin levels type

-- an address has one level, and one away from its global's has two
abbrev pub address_levels : ℕ → ℕ
address_levels zero = 1
address_levels (suc offset) = 2

-- the address so many bytes from a global, where so many levels may be opened
pub record IsAddress (n : ℕ) (global : List ℕ) (offset : ℕ) : Type 0 where
  pub name : IsName global
  pub near : offset < 2 ^ 64
  pub levels : address_levels offset ≤ n

-- parts of a type
pub record AreParts (n : ℕ) (P : Ty → Const → Type 0) (part : Ty) (parts : List Const) : Type 0 where
  pub type : IsTyWithin n part
  pub some : nat_lt 0 (length parts) ≡ true
  pub each : AllByRecursion (P part) parts

pub record AreFields (n : ℕ) (P : Ty → Const → Type 0) (types : List Ty) (parts : List Const) : Type 0 where
  pub each_type : AllByRecursion (IsTyWithin n) types
  pub each : AllZip P types parts

-- the outermost layers of a type and of a constant at it, whose parts have at most n levels; P tells of the parts
abbrev pub ConstLayer : ℕ → (Ty → Const → Type 0) → Ty → Ty-F Ty → Const-F Const Operand → Type 0
ConstLayer n P type (Ty-F.Int own) (Const-F.Int width value) = (own ≡ width) × (value < 2 ^ bits width)
ConstLayer n P type (Ty-F.Int own) (Const-F.Number name offset) = (own ≡ W64) × IsAddress n name offset
ConstLayer n P type Ty-F.Ptr Const-F.Null = Unit {0}
ConstLayer n P type Ty-F.Ptr (Const-F.Addr name offset) = IsAddress (suc n) name offset
ConstLayer n P type (Ty-F.Array count part) (Const-F.Zero own) = type ≡ own
ConstLayer n P type (Ty-F.Array count part) (Const-F.Array own parts) = (part ≡ own) × (length parts ≡ count) × AreParts n P part parts
ConstLayer n P type (Ty-F.Array count part) (Const-F.Bytes text) = (part ≡ ty.Int W8) × (length text ≡ count) × IsBytes text
ConstLayer n P type (Ty-F.Struct types) (Const-F.Zero own) = type ≡ own
ConstLayer n P type (Ty-F.Struct types) (Const-F.Struct parts) = AreFields n P types parts
ConstLayer n P type _ _ = ⊥

-- a constant at a type, of at most so many levels
abbrev pub IsConstWithin : ℕ → Ty → Const → Type 0
IsConstWithin zero type constant = ⊥
IsConstWithin (suc n) type constant = ConstLayer n (IsConstWithin n) type (out-Ty type) (out-Const constant)

-- an operand at a type
abbrev pub IsOperand : Ty → Operand → Type 0
IsOperand type (operand.Reg name) = IsName name
IsOperand type (operand.Const constant) = IsConstWithin levels type constant

abbrev pub IsCallee : Callee → Type 0
IsCallee (Callee.Function name) = IsName name
IsCallee (Callee.Value value) = IsOperand ty.Ptr value

abbrev pub IsMaybeName : Option (List ℕ) → Type 0
IsMaybeName None = Unit {0}
IsMaybeName (Some name) = IsName name

-- an argument at the type of its parameter
abbrev pub IsArgument : Ty → Operand → Type 0
IsArgument type value = IsTy type × IsOperand type value

abbrev pub IsIndex : Width × Operand → Type 0
IsIndex index = IsOperand (ty.Int index.0) index.1

abbrev pub IsArm : Ty → Operand × List ℕ → Type 0
IsArm type arm = IsOperand type arm.0 × IsName arm.1

abbrev pub IsCase : Width → ℕ × List ℕ → Type 0
IsCase width choice = (choice.0 < 2 ^ bits width) × IsName choice.1

abbrev pub is_void : Ty-F Ty → Bool
is_void Ty-F.Void = true
is_void _ = false

abbrev pub IsReturned : Ty → Option Operand → Type 0
IsReturned type None = type ≡ ty.Void
IsReturned type (Some value) = (is_void (out-Ty type) ≡ false) × IsTy type × IsOperand type value

abbrev pub IsCode : Option ℕ → Type 0
IsCode None = Unit {0}
IsCode (Some code) = code < 256

-- an instruction of an output
abbrev pub IsInst : Inst → Type 0
IsInst (inst.Binary dst op width a b) = IsName dst × IsOperand (ty.Int width) a × IsOperand (ty.Int width) b
IsInst (inst.Compare dst pred type a b) = IsName dst × IsTy type × IsOperand type a × IsOperand type b
IsInst (inst.Select dst test type a b) = IsName dst × IsOperand (ty.Int W1) test × IsTy type × IsOperand type a × IsOperand type b
IsInst (inst.Cast dst op from a to) = IsName dst × IsOperand (ty.Int from) a
IsInst (inst.Gep dst type base indices) = IsName dst × IsTy type × IsOperand ty.Ptr base × AllByRecursion IsIndex indices
IsInst (inst.Load dst type addr) = IsName dst × IsTy type × IsOperand ty.Ptr addr
IsInst (inst.Store type value addr) = IsTy type × IsOperand type value × IsOperand ty.Ptr addr
IsInst (inst.Call dst fty callee args) = IsMaybeName dst × IsTy fty.result × IsCallee callee × AllZip IsArgument fty.params args
IsInst (inst.Extract dst pair part) = IsName dst × IsName pair × (part < 256)
IsInst (inst.Phi dst type arms) = IsName dst × IsTy type × (nat_lt 0 (length arms) ≡ true) × AllByRecursion (IsArm type) arms
IsInst (inst.Br to) = IsName to
IsInst (inst.CondBr test met unmet) = IsOperand (ty.Int W1) test × IsName met × IsName unmet
IsInst (inst.Switch width value other cases) = IsOperand (ty.Int width) value × IsName other × AllByRecursion (IsCase width) cases
IsInst (inst.Ret type value) = IsReturned type value
IsInst inst.Unreachable = Unit {0}
IsInst (inst.Trap code) = IsCode code
IsInst (inst.Number dst ptr) = IsName dst × IsOperand ty.Ptr ptr
IsInst (inst.Rotate dst value by) = IsName dst × IsOperand (ty.Int W64) value × (by < 256)
IsInst _ = ⊥

-- the instruction is a terminator
abbrev pub is_terminator : Inst → Bool
is_terminator (inst.Br to) = true
is_terminator (inst.CondBr test met unmet) = true
is_terminator (inst.Switch width value other cases) = true
is_terminator (inst.Ret type value) = true
is_terminator inst.Unreachable = true
is_terminator _ = false

-- the instructions of a block, of which the last and it alone ends the block
abbrev pub AreInsts : List Inst → Type 0
AreInsts [] = ⊥
AreInsts (i ∷ []) = IsInst i × (is_terminator i ≡ true)
AreInsts (i ∷ next ∷ insts) = IsInst i × (is_terminator i ≡ false) × AreInsts (next ∷ insts)

pub record IsBlock (block : Block) : Type 0 where
  pub label : IsName block.label
  pub insts : AreInsts block.insts

-- the parameters of a function, each of a type; those of a declaration are written without names
abbrev pub AreParams : List Block → List Ty → List (List ℕ) → Type 0
AreParams [] types params = AllByRecursion IsTy types
AreParams (block ∷ blocks) types params = AllZip (λ type param. IsTy type × IsName param) types params

pub record IsFunc (f : Func) : Type 0 where
  pub name : IsName f.name
  pub result : IsTy f.fty.result
  pub params : AreParams f.blocks f.fty.params f.params
  pub blocks : AllByRecursion IsBlock f.blocks

abbrev pub IsInit : Ty → Option Const → Type 0
IsInit type None = Unit {0}
IsInit type (Some constant) = IsConstWithin levels type constant

pub record IsVar (v : Var) : Type 0 where
  pub name : IsName v.name
  pub type : IsTy v.ty
  pub init : IsInit v.ty v.init
  pub align : v.align < 2 ^ 64

-- a table has at least one function
pub record IsTable (table : Jump) : Type 0 where
  pub name : IsName table.name
  pub some : nat_lt 0 (length table.funcs) ≡ true
  pub each : AllByRecursion IsName table.funcs

-- a module whose text can be read again
pub record IsWritten (m : Module) : Type 0 where
  pub vars : AllByRecursion IsVar m.vars
  pub tables : AllByRecursion IsTable m.jumps
  pub funcs : AllByRecursion IsFunc m.funcs
