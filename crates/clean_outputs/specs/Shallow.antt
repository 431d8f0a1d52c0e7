-- Types that are written out within the levels that a text may have, and the order in which a module is printed.
-- Source: LLVM Language Reference, "Type System" and "Module Structure". Differs: declarations stand before definitions.
use Rattle.std.specs.Prelude.{◌≡◌, ℕ, zero, suc, List, None}
use Rattle.std.specs.List.{AllByRecursion}
use Rattle.ltt_base.specs.declared.refusal.Placed.{Placed}
use Rattle.ir_values.specs.declared.types.Ty.{Ty, out-Ty}
use Rattle.ir_values.specs.declared.types.Ty.TheOpen.{Ty-F}
use Rattle.ir_values.specs.declared.instructions.Inst.{Inst}
use Rattle.ir_values.specs.declared.instructions.Inst.TheVariants as inst
use Rattle.ir_values.specs.declared.modules.Block.{Block}
use Rattle.ir_values.specs.declared.modules.Func.{Func}
use Rattle.ir_values.specs.declared.modules.Module.{Module}
use Rattle.ir_values.specs.declared.units.Unit.{Unit as TheUnit}
use Rattle.type_grammar.specs.Levels.{levels}
use Rattle.check_names.specs.Spaces.{type_of}
use Rattle.printed_modules.specs.Printed.{declared_first}

-- the outermost layer of a type, where P tells of its parts
abbrev pub ShallowTyLayer : (Ty → Type 0) → Ty-F Ty → Type 0
ShallowTyLayer P (Ty-F.Array count part) = P part
ShallowTyLayer P (Ty-F.Struct parts) = AllByRecursion P parts
ShallowTyLayer P _ = Unit {0}

-- a type of at most so many levels
abbrev pub IsShallowTyWithin : ℕ → Ty → Type 0
IsShallowTyWithin zero type = ⊥
IsShallowTyWithin (suc n) type = ShallowTyLayer (IsShallowTyWithin n) (out-Ty type)

abbrev pub IsShallowTy : Ty → Type 0
IsShallowTy type = IsShallowTyWithin levels type

-- the source element type of an address; in an output without flaws every other instruction's types have one level
abbrev pub IsShallowInst : Inst → Type 0
IsShallowInst (inst.Gep dst type base indices) = IsShallowTy type
IsShallowInst _ = Unit {0}

abbrev pub IsShallowFunc : Func → Type 0
IsShallowFunc f = AllByRecursion (λ (block : Block). AllByRecursion IsShallowInst block.insts) f.blocks

-- the types of variables and the source element types have at most the levels that a text may have
pub record IsShallow (m : Module) : Type 0 where
  pub vars : AllByRecursion (λ v. IsShallowTy v.ty) m.vars
  pub funcs : AllByRecursion IsShallowFunc m.funcs

-- the same module with its declarations before its definitions
abbrev pub declarations_first : Module → Module
declarations_first m = record m { funcs = declared_first m.funcs }

-- no unit defines a named type
abbrev pub HasNoNamedType : List (Placed TheUnit) → Type 0
HasNoNamedType us = AllByRecursion (λ u. type_of u.value.form ≡ None) us
