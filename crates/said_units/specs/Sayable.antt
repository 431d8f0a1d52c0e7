-- Units as a text can say them: the names of globals, values and labels, and strings of bytes, are bytes; integers are below 2 to the power
-- of their width; types and constants have at most 64 levels.
-- Source: LLVM Language Reference, "Identifiers", "Type System", "Constants" and "Instruction Reference". Differs: nothing is told of names
-- of types, of texts that are left out, of words, alignments and metadata.
use Rattle.std.specs.Prelude.{◌≡◌, ℕ, zero, suc, ◌^◌, ◌<◌, ◌≤◌, nat_lt, true, List, [], ◌∷◌, length, Option, IfSome}
use Rattle.std.specs.List.{AllByRecursion}
use Rattle.ltt_base.specs.declared.refusal.Placed.{Placed}
use Rattle.ir_values.specs.declared.types.Ty.{Ty, out-Ty}
use Rattle.ir_values.specs.declared.types.Ty.TheVariants as ty
use Rattle.ir_values.specs.declared.types.Ty.TheOpen.{Ty-F}
use Rattle.ir_values.specs.declared.types.Width.TheVariants.{W1}
use Rattle.ir_values.specs.declared.constants.Const.{Const, out-Const}
use Rattle.ir_values.specs.declared.constants.Const.TheOpen.{Const-F}
use Rattle.ir_values.specs.declared.constants.Operand.{Operand}
use Rattle.ir_values.specs.declared.constants.Operand.TheVariants as operand
use Rattle.ir_values.specs.declared.units.Unit.{Unit as TheUnit}
use Rattle.ir_values.specs.declared.units.Param.{Param}
use Rattle.ir_values.specs.declared.units.Head.{Head}
use Rattle.ir_values.specs.declared.units.Arg.{Arg}
use Rattle.ir_values.specs.declared.units.BranchText.{BranchText}
use Rattle.ir_values.specs.declared.units.BranchText.TheVariants as branch
use Rattle.ir_values.specs.declared.units.EndText.{EndText}
use Rattle.ir_values.specs.declared.units.EndText.TheVariants as end
use Rattle.ir_values.specs.declared.units.Form.{Form}
use Rattle.ir_values.specs.declared.units.Form.TheVariants as form
use Rattle.ir_numbers.specs.Numbers.{bits}
use Rattle.type_grammar.specs.Levels.{levels}
use Rattle.printed_units.specs.Written.{IsBytes, address_levels}

-- the outermost layer of a type, where P tells of its parts; `{ ptr, i1 }` is read as a struct, and never as `Pair`
abbrev pub SaidTyLayer : (Ty → Type 0) → Ty-F Ty → Type 0
SaidTyLayer P (Ty-F.Array count part) = (count < 2 ^ 64) × P part
SaidTyLayer P (Ty-F.Struct parts) = AllByRecursion P parts
SaidTyLayer P Ty-F.Pair = ⊥
SaidTyLayer P _ = Unit {0}

-- a type that a text can write, of at most so many levels
abbrev pub IsSaidTyWithin : ℕ → Ty → Type 0
IsSaidTyWithin zero type = ⊥
IsSaidTyWithin (suc n) type = SaidTyLayer (IsSaidTyWithin n) (out-Ty type)

abbrev pub IsSaidTy : Ty → Type 0
IsSaidTy type = IsSaidTyWithin levels type

-- a constant behind its written type, of at most n levels each; P tells of it
abbrev pub SaidTypedLayer : ℕ → (Ty → Const → Type 0) → Const-F Const Operand → Type 0
SaidTypedLayer n P (Const-F.Typed own part) = IsSaidTyWithin n own × P own part
SaidTypedLayer n P _ = ⊥

abbrev pub IsSaidTyped : ℕ → (Ty → Const → Type 0) → Const → Type 0
IsSaidTyped n P constant = SaidTypedLayer n P (out-Const constant)

abbrev pub IsSaidIndex : ℕ → (Ty → Const → Type 0) → Operand → Type 0
IsSaidIndex n P (operand.Reg name) = ⊥
IsSaidIndex n P (operand.Const constant) = IsSaidTyped n P constant

-- the constant stands behind this type
abbrev pub WrittenLayer : Ty → Const-F Const Operand → Type 0
WrittenLayer type (Const-F.Typed own part) = own ≡ type
WrittenLayer type _ = ⊥

-- there is a first part, and the type that is written before it is kept as that of the array's parts
abbrev pub BeginsWith : Ty → List Const → Type 0
BeginsWith type [] = ⊥
BeginsWith type (first ∷ others) = WrittenLayer type (out-Const first)

-- the outermost layer of a constant behind a type, whose parts have at most n levels; P tells of the parts
abbrev pub SaidConstLayer : ℕ → (Ty → Const → Type 0) → Ty → Const-F Const Operand → Type 0
SaidConstLayer n P type (Const-F.Int width value) = value < 2 ^ bits width
SaidConstLayer n P type Const-F.Null = Unit {0}
SaidConstLayer n P type (Const-F.Addr name offset) = IsBytes name × (offset ≡ 0)
SaidConstLayer n P type (Const-F.Zero own) = own ≡ type
SaidConstLayer n P type (Const-F.Array part parts) = BeginsWith part parts × AllByRecursion (IsSaidTyped n P) parts
SaidConstLayer n P type (Const-F.Struct parts) = AllByRecursion (IsSaidTyped n P) parts
SaidConstLayer n P type (Const-F.Bytes text) = IsBytes text
SaidConstLayer n P type (Const-F.Gep own base indices) = IsSaidTyWithin n own × P ty.Ptr base × AllByRecursion (IsSaidIndex n P) indices
SaidConstLayer n P type (Const-F.Number name offset) = IsBytes name × (offset < 2 ^ 64) × (address_levels offset ≤ n)
SaidConstLayer n P type (Const-F.Left text) = Unit {0}
SaidConstLayer n P type (Const-F.Typed own part) = ⊥

-- a constant that a text can write behind a type, of at most so many levels
abbrev pub IsSaidConstWithin : ℕ → Ty → Const → Type 0
IsSaidConstWithin zero type constant = ⊥
IsSaidConstWithin (suc n) type constant = SaidConstLayer n (IsSaidConstWithin n) type (out-Const constant)

abbrev pub IsSaidConst : Ty → Const → Type 0
IsSaidConst type constant = IsSaidConstWithin levels type constant

-- a register, or a constant behind a type
abbrev pub IsSaidOperand : Ty → Operand → Type 0
IsSaidOperand type (operand.Reg name) = IsBytes name
IsSaidOperand type (operand.Const constant) = IsSaidConst type constant

abbrev pub IsSaidName : Option (List ℕ) → Type 0
IsSaidName name = IfSome name IsBytes

pub record IsSaidParam (param : Param) : Type 0 where
  pub type : IsSaidTy param.ty
  pub name : IsSaidName param.name

pub record IsSaidHead (head : Head) : Type 0 where
  pub name : IsBytes head.name
  pub result : IsSaidTy head.result
  pub params : AllByRecursion IsSaidParam head.params

abbrev pub IsSaidValue : Ty × Operand → Type 0
IsSaidValue x = IsSaidTy x.0 × IsSaidOperand x.0 x.1

abbrev pub IsSaidArg : Arg → Type 0
IsSaidArg (Arg.Value type left value) = IsSaidTy type × IsSaidOperand type value
IsSaidArg _ = Unit {0}

abbrev pub IsSaidArm : Ty → Operand × List ℕ → Type 0
IsSaidArm type arm = IsSaidOperand type arm.0 × IsBytes arm.1

abbrev pub IsSaidCase : Ty × Const × List ℕ → Type 0
IsSaidCase case = IsSaidTy case.0 × IsSaidConst case.0 case.1 × IsBytes case.2

abbrev pub IsSaidBranch : BranchText → Type 0
IsSaidBranch (branch.Br to) = IsBytes to
IsSaidBranch (branch.CondBr test met unmet) = IsSaidOperand (ty.Int W1) test × IsBytes met × IsBytes unmet
IsSaidBranch (branch.Switch type value other cases) =
    IsSaidTy type × IsSaidOperand type value × IsBytes other × AllByRecursion IsSaidCase cases

abbrev pub IsSaidEnd : EndText → Type 0
IsSaidEnd end.RetVoid = Unit {0}
IsSaidEnd (end.Ret type value) = IsSaidTy type × IsSaidOperand type value
IsSaidEnd end.Unreachable = Unit {0}

abbrev pub AreSaidTys : List Ty → Type 0
AreSaidTys types = AllByRecursion IsSaidTy types

-- what a text can say as a unit; of other units nothing is told
abbrev pub IsSaid : Form → Type 0
IsSaid (form.TypeForm name type) = IfSome type IsSaidTy
IsSaid (form.VariableForm name linkage constant type init align attached) =
    IsBytes name × IsSaidTy type × IfSome init (IsSaidConst type)
IsSaid (form.DeclareForm head) = IsSaidHead head
IsSaid (form.DefineForm head) = IsSaidHead head
IsSaid (form.LabelForm name) = IsBytes name
IsSaid (form.BinaryForm dst op type a b) = IsSaidName dst × IsSaidTy type × IsSaidOperand type a × IsSaidOperand type b
IsSaid (form.CompareForm dst pred type a b) = IsSaidName dst × IsSaidTy type × IsSaidOperand type a × IsSaidOperand type b
IsSaid (form.SelectForm dst test_type test type a other_type b) =
    IsSaidName dst × IsSaidValue (test_type, test) × IsSaidValue (type, a) × IsSaidValue (other_type, b)
IsSaid (form.CastForm dst op from a to) = IsSaidName dst × IsSaidTy from × IsSaidOperand from a × IsSaidTy to
IsSaid (form.AddressForm dst type base index) =
    IsSaidName dst × IsSaidTy type × IsSaidOperand ty.Ptr base × AllByRecursion IsSaidValue index
IsSaid (form.LoadForm dst type addr) = IsSaidName dst × IsSaidTy type × IsSaidOperand ty.Ptr addr
IsSaid (form.StoreForm type value addr) = IsSaidTy type × IsSaidOperand type value × IsSaidOperand ty.Ptr addr
IsSaid (form.CallForm dst result whole dots callee args bundle) =
    IsSaidName dst × IsSaidTy result × IfSome whole AreSaidTys × IsSaidOperand ty.Ptr callee × AllByRecursion IsSaidArg args
IsSaid (form.ExtractForm dst value part) = IsSaidName dst × IsSaidOperand ty.Pair value
IsSaid (form.PhiForm dst type arms) =
    IsSaidName dst × IsSaidTy type × (nat_lt 0 (length arms) ≡ true) × AllByRecursion (IsSaidArm type) arms
IsSaid (form.BranchForm text) = IsSaidBranch text
IsSaid (form.EndForm text) = IsSaidEnd text
IsSaid (form.NumberForm dst value) = IsSaidName dst × IsSaidOperand ty.Ptr value
IsSaid (form.TableForm name funcs) = IsBytes name × (nat_lt 0 (length funcs) ≡ true) × AllByRecursion IsBytes funcs
IsSaid _ = Unit {0}

abbrev pub AreSaid : List (Placed TheUnit) → Type 0
AreSaid us = AllByRecursion (λ u. IsSaid u.value.form) us
