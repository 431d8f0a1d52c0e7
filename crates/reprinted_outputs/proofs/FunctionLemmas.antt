-- The functions of an output are as printed ones.
use Rattle.std.proofs.Common.{◌≡◌, refl, sym, subst, inl, inr, arith, ℕ, zero, suc, ◌+◌, ◌*◌, ◌^◌, ◌<◌, ◌≤◌, false, List, [], ◌∷◌, ◌++◌, map, codes, Option, Some, None, IfSome, slice_get}
use Rattle.std.specs.List.{list_any, AllByRecursion, AllZip}
use Rattle.ir_values.specs.declared.types.Width.TheVariants.{W1}
use Rattle.ir_values.specs.declared.types.Ty.TheVariants as ty
use Rattle.ir_values.specs.declared.types.Ty.TheVariants.{outs-Int, outs-Ptr}
use Rattle.ir_values.specs.declared.constants.Const.TheVariants as const
use Rattle.ir_values.specs.declared.constants.Const.TheVariants.{outs-Addr}
use Rattle.ir_values.specs.declared.constants.Operand.{Operand}
use Rattle.ir_values.specs.declared.constants.Operand.TheVariants as operand
use Rattle.ir_values.specs.declared.instructions.Inst.{Inst}
use Rattle.ir_values.specs.declared.instructions.Inst.TheVariants.{Ret}
use Rattle.ir_values.specs.declared.modules.Linkage.TheVariants.{Strong}
use Rattle.ir_values.specs.declared.modules.Block.{Block}
use Rattle.ir_values.specs.declared.modules.Func.{Func}
use Rattle.ir_print.specs.declared.intrinsics.Intrinsic.{Intrinsic}
use Rattle.ir_names.specs.Names.{is_decimal, is_number, is_digit}
use Rattle.ir_print.specs.ModuleText.{is_call, has_none}
use Rattle.type_grammar.specs.Levels.{levels}
use Rattle.thin_files.specs.declared.thin.Variable.{Variable}
use Rattle.thin_files.specs.declared.thin.Second.{Second}
use Rattle.thin_files.specs.declared.thin.Thin.{Thin}
use Rattle.thin_files.specs.Thin.{IsAllowed, IsSecondAllowed, address_of, distance_of, function_of, module_of, second_function, second_functions, variable_of}
use Rattle.thin_files.proofs.Allowed.{names_of}
use Rattle.test_lowering.specs.Rewriting.{Home, group_name, object_from, rewritten, rewritten_func, rewritten_operand, test_shape}
use Rattle.test_lowering.proofs.ExactLaws.{Carrier, carrier_of}
use Rattle.test_lowering.proofs.PlaceLaws.{text_cases, all_at, place_of}
use Rattle.test_lowering.proofs.RewritingLaws.{lowered-function, lowered-second}
use Rattle.printed_units.specs.Written.{address_levels, IsName, IsTy, IsOperand, IsBlock, IsFunc}
use Rattle.printed_modules.specs.Printed.{AreApart, IsKeptOperand, IsKeptFunc}
use Rattle.printed_units.proofs.WrittenLemmas.{int_is_ty, ptr_is_ty}
use Rattle.reprinted_outputs.specs.Laws.{AreSecondBytes, AreBytes}
use Rattle.reprinted_outputs.proofs.NameLemmas.{IsFree, free_name, group_is_name, differ}

-- a test for a member and the return of it, in the one block of a function

abbrev lowered_insts : Home → List ℕ → Operand → List Inst
lowered_insts home register pointer = test_shape (home ∷ []) register pointer ++ Ret (ty.Int W1) (Some (operand.Reg register)) ∷ []

abbrev lowered_block : Home → List ℕ → Operand → Block
lowered_block home register pointer = record { label = codes "0"; insts = lowered_insts home register pointer }

abbrev lowered : Func → Home → List ℕ → Operand → Func
lowered f home register pointer = record f { blocks = lowered_block home register pointer ∷ [] }

-- what is compared

zero_name : IsName (codes "0")
unfolding is_decimal is_number is_digit
zero_name = record { bytes = refl; small = λ e. refl }

address_levels_most : (offset : ℕ) → address_levels offset ≤ 64
address_levels_most zero = omega arith
address_levels_most (suc offset) = omega arith

address_is : (group offset : ℕ) → offset < 2 ^ 64 → IsOperand ty.Ptr (operand.Const (const.Addr (group_name group) offset))
unfolding levels
address_is group offset near =
    rw (outs-Ptr, outs-Addr (group_name group) offset)
    (record { name = group_is_name group; near = near; levels = address_levels_most offset })

address_kept : (group offset : ℕ) → IsKeptOperand (operand.Const (const.Addr (group_name group) offset))
unfolding levels
address_kept group offset = rw (outs-Addr (group_name group) offset) tt

-- a function of an output

pub record IsMade (f : Func) : Type 0 where
  pub written : IsFunc f
  pub kept : (funcs : List Func) → IsKeptFunc funcs f
  pub defined : has_none f.blocks ≡ false
  pub calls_none : (intrinsic : Intrinsic) → list_any (λ block. list_any (is_call intrinsic) block.insts) f.blocks ≡ false
  pub free : IsFree f.name

-- what is known of a function, and of the pointer that it tests
record IsSound (f : Func) (home : Home) (register : List ℕ) (pointer : Operand) : Type 0 where
  name : IsName f.name
  free : IsFree f.name
  result : f.fty.result ≡ ty.Int W1
  params : AllZip (λ type param. IsTy type × IsName param) f.fty.params f.params
  linkage : f.linkage ≡ Strong
  entries : f.entries ≡ []
  near : home.offset < 2 ^ 64
  set : IsName register
  tested : IsOperand ty.Ptr pointer
  kept : IsKeptOperand pointer

block_written : (home : Home) (register : List ℕ) (pointer : Operand) → home.offset < 2 ^ 64 → IsName register → IsOperand ty.Ptr pointer
    → IsBlock (lowered_block home register pointer)
block_written home register pointer near named is = record {
  label = zero_name;
  insts = (
    (named, ptr_is_ty, is, address_is home.group home.offset near),
    refl,
    ((rw (outs-Int W1) refl, (int_is_ty W1), named), refl),
  );
}

no_call : (intrinsic : Intrinsic) (home : Home) (register : List ℕ) (pointer : Operand)
    → list_any (is_call intrinsic) (lowered_insts home register pointer) ≡ false
unfolding is_call
no_call Intrinsic.Rotation home register pointer = refl
no_call Intrinsic.Trap home register pointer = refl
no_call Intrinsic.CodedTrap home register pointer = refl

made : (f : Func) (home : Home) (register : List ℕ) (pointer : Operand) → IsSound f home register pointer
    → IsMade (lowered f home register pointer)
made f home register pointer is = record {
  written = record {
    name = is.name;
    result = subst IsTy (sym is.result) (int_is_ty W1);
    params = is.params;
    blocks = (block_written home register pointer is.near is.set is.tested, tt);
  };
  kept = λ funcs. record {
    linkage = rw is.linkage refl;
    entries = is.entries;
    blocks = (
      (
        record { operands = (is.kept, (address_kept home.group home.offset, tt)); calls = tt },
        (record { operands = (tt, tt); calls = tt }, tt),
      ),
      tt,
    );
  };
  defined = refl;
  calls_none = λ intrinsic. rw (no_call intrinsic home register pointer) refl;
  free = is.free;
}

-- the first function

near_home : (t : Thin) → IsAllowed t → (id : List ℕ) (c : Carrier t id) → c.variable.offset < 2 ^ 64
near_home t allowed id c =
    let few = all_at (λ (v : Variable). (1 ≤ v.count) × (v.count ≤ 1000)) t.variables c.number c.variable allowed.counts c.at in
    let inside = all_at (λ (v : Variable). v.offset ≤ 8 * v.count) t.variables c.number c.variable allowed.inside c.at in
    omega (arith, few.1, inside)

abbrev home_in : (t : Thin) (id : List ℕ) → Carrier t id → Home
home_in t id c = record { group = c.number; offset = c.variable.offset }

made_first : (t : Thin) → IsAllowed t → AreBytes t → IsMade (rewritten_func (module_of t) (function_of t))
made_first t allowed bytes =
    let names = names_of t allowed in
    let c = carrier_of t t.tested allowed.carried in
    let pointer = free_name t.pointer names.registers.first bytes.pointer in
    subst IsMade (lowered-function t allowed c.number c.variable.offset (c.variable, c.at, c.is, refl))
    (made (function_of t) (home_in t t.tested c) t.register (operand.Reg t.pointer) (record {
      name = free_name t.name names.name bytes.name;
      free = names.name;
      result = refl;
      params = ((ptr_is_ty, pointer), tt);
      linkage = refl;
      entries = refl;
      near = near_home t allowed t.tested c;
      set = free_name t.register names.registers.second bytes.register;
      tested = pointer;
      kept = tt;
    }))

-- the second function, which tests the address of a variable's home

object_found : (group : ℕ) (vs : List Variable) (name : List ℕ) (k : ℕ) → slice_get (map (λ v. v.name) vs) k ≡ Some name
    → (object : ℕ) × (object_from group (map variable_of vs) name ≡ Some object)
object_found group [] name k at = absurd (cc)
object_found group (v ∷ vs) name zero at =
    elim (text_cases v.name name) [
      | inl same ↦ (group, rw same.0 refl)
      | inr other ↦ absurd (other.1 (cc))
    ]
object_found group (v ∷ vs) name (suc k) at =
    elim (text_cases v.name name) [
      | inl same ↦ (group, rw same.0 refl)
      | inr other ↦ let rest = object_found (group + 1) vs name k at in (rest.0, rw other.0 rest.1)
    ]

-- such an operand
record IsPointer (pointer : Operand) : Type 0 where
  is : IsOperand ty.Ptr pointer
  kept : IsKeptOperand pointer

second_pointer : (t : Thin) (s : Second) → IsSecondAllowed t s → IsPointer (rewritten_operand (module_of t) (address_of s))
second_pointer t s allowed =
    let at = place_of (map (λ v. v.name) t.variables) s.object allowed.object in
    let found = object_found 0 t.variables s.object at.0 at.1 in
    rw found.1 (record {
      is = address_is found.0 (0 + distance_of s.offset) (omega (arith, allowed.near));
      kept = address_kept found.0 (0 + distance_of s.offset);
    })

made_second : (t : Thin) (s : Second) → IsAllowed t → IsSecondAllowed t s → AreSecondBytes s
    → IsMade (rewritten_func (module_of t) (second_function s))
made_second t s allowed second bytes =
    let c = carrier_of t s.tested second.carried in
    let pointer = second_pointer t s second in
    subst IsMade (lowered-second t allowed s c.number c.variable.offset (c.variable, c.at, c.is, refl))
    (made (second_function s) (home_in t s.tested c) s.register (rewritten_operand (module_of t) (address_of s)) (record {
      name = free_name s.name second.name bytes.name;
      free = second.name;
      result = refl;
      params = tt;
      linkage = refl;
      entries = refl;
      near = near_home t allowed s.tested c;
      set = free_name s.register second.register bytes.register;
      tested = pointer.is;
      kept = pointer.kept;
    }))

-- all functions

pub record AreMade (funcs : List Func) : Type 0 where
  pub each : AllByRecursion IsMade funcs
  pub apart : AreApart (map (λ f. f.name) funcs)

made_with : (t : Thin) → IsAllowed t → AreBytes t → (second : Option Second) → IfSome second (IsSecondAllowed t)
    → IfSome second AreSecondBytes → AreMade (map (rewritten_func (module_of t)) (function_of t ∷ second_functions second))
made_with t allowed bytes None is named = record { each = (made_first t allowed bytes, tt); apart = (refl, tt) }
made_with t allowed bytes (Some s) is named = record {
  each = (made_first t allowed bytes, (made_second t s allowed is named, tt));
  apart = (rw (differ t.name s.name (λ same. is.new (0, omega arith, same))) refl, (refl, tt));
}

pub made_functions : (t : Thin) → IsAllowed t → AreBytes t → AreMade (rewritten (module_of t)).funcs
made_functions t allowed bytes = made_with t allowed bytes t.second allowed.second bytes.second
