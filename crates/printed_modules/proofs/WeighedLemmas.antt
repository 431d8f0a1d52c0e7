-- What is found of constants of each form.
use Rattle.std.proofs.Common.{◌≡◌, refl, sym, ap, ◌∙◌, ℕ, zero, suc, ◌+◌, ◌-◌, ◌*◌, ◌%◌, ◌^◌, ◌<◌, nat_eq, nat_lt, Bool, true, false, cond, List, [], ◌∷◌, map, Option, Some, None, is_none, arith}
use Rattle.std.proofs.Math.Nat.{mod-eq_of_lt}
use Rattle.std.proofs.lemmas.Bool.Decides.{nat_tests}
use Rattle.ir_values.specs.declared.types.Width.TheVariants.{W8, W64}
use Rattle.ir_values.specs.declared.types.Ty.{Ty, map-Ty}
use Rattle.ir_values.specs.declared.types.Ty.TheVariants as ty
use Rattle.ir_values.specs.declared.types.Ty.TheVariants.{outs-Int}
use Rattle.ir_values.specs.declared.constants.Const.{Const, roll-Const, fold-roll-Const, map-Const}
use Rattle.ir_values.specs.declared.constants.Const.TheVariants as const
use Rattle.ir_values.specs.declared.constants.Const.TheVariants.{rolls-Int, rolls-Addr, rolls-Gep, rolls-Typed}
use Rattle.ir_values.specs.declared.constants.Const.TheOpen.{Const-F, Operand-F}
use Rattle.ir_values.specs.declared.constants.Operand.{Operand, fold-roll-Operand}
use Rattle.ir_values.specs.declared.constants.Operand.TheVariants as operand
use Rattle.ir_values.specs.declared.constants.Operand.TheVariants.{rolls-Const}
use Rattle.ir_numbers.specs.Numbers.{bits}
use Rattle.check_types.specs.Measures.{Measure, size, size_in, measure, single, measure_step, named_measure}
use Rattle.check_constants.specs.declared.indices.Index.TheVariants.{Number}
use Rattle.check_constants.specs.Numbers.{extended}
use Rattle.check_constants.specs.Indices.{moved, walked}
use Rattle.check_constants.specs.Keeping.{address_kept}
use Rattle.check_constants.specs.Weighed.{Weighed}
use Rattle.check_constants.specs.Constants.{const_step, operand_step, weighed, operand_weighed}
use Rattle.check_constants.specs.Kept.{kept}
use Rattle.check_constants.specs.Callees.{global_of, offset_of, callee_of}
use Rattle.printed_units.specs.Said.{address_said}
use Rattle.printed_modules.proofs.TypeKept.{Units, measure_opened}

-- a constant's layer tells what is found of it, from what is found of its parts
pub weighed_rolled : (constant : Const) (layer : Const-F Const Operand) → roll-Const layer ≡ constant
    → weighed constant ≡ const_step (map-Const Const Operand Weighed Weighed weighed operand_weighed layer)
weighed_rolled constant layer rolls =
    ap weighed (sym rolls) ∙ fold-roll-Const Weighed Weighed const_step operand_step layer

pub weighed_typed : (own : Ty) (part : Const) → weighed (const.Typed own part) ≡ const_step (Const-F.Typed own (weighed part))
weighed_typed own part = weighed_rolled (const.Typed own part) (Const-F.Typed own part) (rolls-Typed own part)

weighed_address : (name : List ℕ) (offset : ℕ) → weighed (const.Addr name offset) ≡ const_step (Const-F.Addr name offset)
weighed_address name offset = weighed_rolled (const.Addr name offset) (Const-F.Addr name offset) (rolls-Addr name offset)

weighed_number : (n : ℕ) → weighed (const.Int W64 n) ≡ const_step (Const-F.Int W64 n)
weighed_number n = weighed_rolled (const.Int W64 n) (Const-F.Int W64 n) (rolls-Int W64 n)

weighed_moved : (own : Ty) (base : Const) (indices : List Operand)
    → weighed (const.Gep own base indices) ≡ const_step (Const-F.Gep own (weighed base) (map operand_weighed indices))
weighed_moved own base indices = weighed_rolled (const.Gep own base indices) (Const-F.Gep own base indices) (rolls-Gep own base indices)

operand_constant : (constant : Const) → operand_weighed (operand.Const constant) ≡ weighed constant
operand_constant constant =
    ap operand_weighed (sym (rolls-Const constant)) ∙ fold-roll-Operand Weighed Weighed const_step operand_step (Operand-F.Const constant)

-- a number of 64 bits as an index

extended_choice : (n : ℕ) (low : Bool) → n < 2 ^ 64 → cond low n ((n + (2 ^ 64 - 2 ^ bits W64)) % 2 ^ 64) ≡ n
extended_choice n true near = refl
extended_choice n false near = ap (λ m. m % 2 ^ 64) (nothing n) ∙ mod-eq_of_lt near where
  nothing : (m : ℕ) → m + (2 ^ 64 - 2 ^ bits W64) ≡ m
  nothing m = omega arith

extended_long : (n : ℕ) → n < 2 ^ 64 → extended W64 n ≡ n
unfolding extended
extended_long n near = extended_choice n (nat_lt n (2 ^ (bits W64 - 1))) near

-- an address moved by bytes

byte_measure : (us : Units) → measure us (ty.Int W8) ≡ single 1 1
byte_measure us =
    measure_opened us (ty.Int W8)
    ∙ ap (λ layer. measure_step (named_measure us) (map-Ty Ty (Option Measure) (measure us) layer)) (outs-Int W8)

whole : (n : ℕ) → n < 2 ^ 64 → n * 1 % 2 ^ 64 ≡ n
whole n near = ap (λ m. m % 2 ^ 64) (once n) ∙ mod-eq_of_lt near where
  once : (m : ℕ) → m * 1 ≡ m
  once m = omega arith

bytes_moved : (us : Units) (n : ℕ) → n < 2 ^ 64 → moved us (ty.Int W8) (Number n ∷ []) ≡ n
unfolding moved walked
bytes_moved us n near =
    ap (λ past. cond past 0 (n * size us (ty.Int W8) % 2 ^ 64)) (ap is_none (byte_measure us))
    ∙ ap (λ bytes. n * bytes % 2 ^ 64) (ap size_in (byte_measure us)) ∙ whole n near

-- an address so many bytes from a global, as it is written

abbrev long : ℕ → Operand
long n = operand.Const (const.Typed (ty.Int W64) (const.Int W64 n))

abbrev away : List ℕ → ℕ → Const
away name offset = const.Gep (ty.Int W8) (const.Addr name 0) (long offset ∷ [])

long_index : (us : Units) (n : ℕ) → n < 2 ^ 64 → (operand_weighed (long n)).index us None ≡ Number n
long_index us n near =
    ap (λ w. w.index us None) (operand_constant (const.Typed (ty.Int W64) (const.Int W64 n)) ∙ weighed_typed (ty.Int W64) (const.Int W64 n))
    ∙ ap (λ w. w.index us (Some (ty.Int W64))) (weighed_number n) ∙ ap Number (extended_long n near)

weighed_away : (name : List ℕ) (offset : ℕ)
    → weighed (away name offset) ≡ const_step (Const-F.Gep (ty.Int W8) (weighed (const.Addr name 0)) (operand_weighed (long offset) ∷ []))
weighed_away name offset = weighed_moved (ty.Int W8) (const.Addr name 0) (long offset ∷ [])

global_away : (name : List ℕ) (offset : ℕ) → global_of (away name offset) ≡ Some name
global_away name offset = ap (λ w. w.global) (weighed_away name offset) ∙ ap (λ w. w.global) (weighed_address name 0)

offset_away : (us : Units) (name : List ℕ) (offset : ℕ) → offset < 2 ^ 64 → offset_of us (away name offset) ≡ offset
offset_away us name offset near =
    ap (λ w. w.offset us) (weighed_away name offset)
    ∙ ap (λ from. (from + moved us (ty.Int W8) ((operand_weighed (long offset)).index us None ∷ [])) % 2 ^ 64)
    (ap (λ w. w.offset us) (weighed_address name 0))
    ∙ ap (λ index. (0 + moved us (ty.Int W8) (index ∷ [])) % 2 ^ 64) (long_index us offset near)
    ∙ ap (λ by. (0 + by) % 2 ^ 64) (bytes_moved us offset near) ∙ ap (λ by. by % 2 ^ 64) (from_none offset) ∙ mod-eq_of_lt near where
      from_none : (n : ℕ) → 0 + n ≡ n
      from_none n = omega arith

kept_away : (us : Units) (type : Option Ty) (name : List ℕ) (offset : ℕ) → offset < 2 ^ 64
    → kept us type (away name offset) ≡ const.Addr name offset
kept_away us type name offset near =
    ap (λ w. w.kept us type) (weighed_away name offset)
    ∙ ap (λ by. address_kept (weighed (const.Addr name 0)).global by)
    (sym (ap (λ w. w.offset us) (weighed_away name offset)) ∙ offset_away us name offset near)
    ∙ ap (λ global. address_kept global offset) (ap (λ w. w.global) (weighed_address name 0))

some : (n : ℕ) → nat_eq (suc n) 0 ≡ false
some n = grind (arith, nat_tests)

said_away : (name : List ℕ) (n : ℕ) → address_said name (suc n) ≡ away name (suc n)
said_away name n = ap (λ none. cond none (const.Addr name 0) (away name (suc n))) (some n)

pub address_kept_again : (us : Units) (type : Option Ty) (name : List ℕ) (offset : ℕ) → offset < 2 ^ 64
    → kept us type (address_said name offset) ≡ const.Addr name offset
address_kept_again us type name zero near = ap (λ w. w.kept us type) (weighed_address name 0)
address_kept_again us type name (suc n) near = ap (kept us type) (said_away name n) ∙ kept_away us type name (suc n) near

-- a global by its name alone is what a call of it calls

callee_at : (us : Units) (constant : Const) (name : List ℕ) (offset : ℕ) → global_of constant ≡ Some name → offset_of us constant ≡ offset
    → callee_of us constant ≡ cond (nat_eq offset 0) (Some name) None
callee_at us constant name offset global by =
    ap (λ from. cond (nat_eq from 0) (global_of constant) None) by ∙ ap (λ found. cond (nat_eq offset 0) found None) global

pub callee_of_address : (us : Units) (name : List ℕ) (offset : ℕ) → offset < 2 ^ 64
    → callee_of us (address_said name offset) ≡ cond (nat_eq offset 0) (Some name) None
callee_of_address us name zero near =
    callee_at us (const.Addr name 0) name 0 (ap (λ w. w.global) (weighed_address name 0)) (ap (λ w. w.offset us) (weighed_address name 0))
callee_of_address us name (suc n) near =
    ap (callee_of us) (said_away name n)
    ∙ callee_at us (away name (suc n)) name (suc n) (global_away name (suc n)) (offset_away us name (suc n) near)
