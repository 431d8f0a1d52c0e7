-- The combined variables of an output are as printed ones.
use Rattle.std.proofs.Common.{◌≡◌, refl, sym, subst, arith, ℕ, zero, suc, ◌+◌, ◌*◌, ◌/◌, ◌^◌, ◌<◌, ◌≤◌, Bool, true, false, nat_le, if◌then◌else◌, List, [], ◌∷◌, map, Some}
use Rattle.std.specs.List.{AllByRecursion}
use Rattle.std.proofs.lemmas.Bool.Decides.{nat_tests}
use Rattle.std.proofs.lemmas.List.Elements.{All-head, All-tail}
use Rattle.ir_values.specs.declared.types.Width.{Width}
use Rattle.ir_values.specs.declared.types.Width.TheVariants.{W8, W64}
use Rattle.ir_values.specs.declared.types.Ty.{Ty}
use Rattle.ir_values.specs.declared.types.Ty.TheVariants as ty
use Rattle.ir_values.specs.declared.types.Ty.TheVariants.{outs-Int, outs-Array, outs-Struct}
use Rattle.ir_values.specs.declared.constants.Const.TheVariants as const
use Rattle.ir_values.specs.declared.constants.Const.TheVariants.{outs-Zero}
use Rattle.ir_values.specs.declared.modules.Linkage.TheVariants.{Private}
use Rattle.ir_values.specs.declared.modules.Var.{Var}
use Rattle.type_grammar.specs.Levels.{levels}
use Rattle.thin_files.specs.declared.thin.Variable.{Variable}
use Rattle.thin_files.specs.Thin.{HaveCounts, variable_of, words_type}
use Rattle.test_lowering.specs.Rewriting.{power_above, pad, gap_of, gap_types, combined, combined_from, group_name, no_place}
use Rattle.test_lowering.proofs.RewritingLaws.{gap-variable, combined-variable}
use Rattle.printed_units.specs.Written.{IsTyWithin, IsTy, IsInit, IsVar}
use Rattle.printed_modules.specs.Printed.{IsKeptInit, IsKeptVar}
use Rattle.printed_units.proofs.WrittenLemmas.{int_within}
use Rattle.printed_modules.proofs.AlignLemmas.{ty_low}
use Rattle.reprinted_outputs.proofs.NameLemmas.{group_is_name}

-- the bytes behind an object are few

either_most : (first : Bool) (a b most : ℕ) → (first ≡ true → a ≤ most) → b ≤ most → (if first then a else b) ≤ most
either_most true a b most one other = one refl
either_most false a b most one other = other

pad_most : (n : ℕ) → pad n ≤ n + 32
pad_most n =
    either_most (nat_le (power_above n) (n + 32)) (power_above n) ((n + 31) / 32 * 32) (n + 32)
    (λ e. grind (arith, nat_tests, e)) (omega arith)

gap_small : (v : Variable) → v.count ≤ 1000 → gap_of (variable_of v) < 2 ^ 64
gap_small v few =
    let words = v.count * 8 in
    let extent = if nat_le words v.offset then words + 1 else words in
    let most : extent ≤ words + 1 = either_most (nat_le words v.offset) (words + 1) words (words + 1) (λ e. omega arith) (omega arith) in
    omega (arith, gap-variable v, pad_most extent, most, few)

-- the type of a combined variable

abbrev slot_type : ℕ → ℕ → Ty
slot_type count gap = ty.Struct (words_type count ∷ gap_types gap)

array_within : (n count : ℕ) (width : Width) → count < 2 ^ 64 → IsTyWithin (suc (suc n)) (ty.Array count (ty.Int width))
array_within n count width few = rw (outs-Array count (ty.Int width)) (few, int_within n width)

gap_within : (n gap : ℕ) → gap < 2 ^ 64 → AllByRecursion (IsTyWithin (suc (suc n))) (gap_types gap)
gap_within n zero few = tt
gap_within n (suc gap) few = (array_within n (suc gap) W8 few, tt)

slot_is_type : (count gap : ℕ) → count < 2 ^ 64 → gap < 2 ^ 64 → IsTy (slot_type count gap)
unfolding levels
slot_is_type count gap few small =
    rw (outs-Struct (words_type count ∷ gap_types gap)) (array_within 61 count W64 few, gap_within 61 gap small)

slot_init : (count gap : ℕ) → IsInit (slot_type count gap) (Some (const.Zero (slot_type count gap)))
unfolding levels
slot_init count gap = rw (outs-Struct (words_type count ∷ gap_types gap), outs-Zero (slot_type count gap)) refl

slot_kept : (count gap : ℕ) → IsKeptInit (Some (const.Zero (slot_type count gap)))
unfolding levels
slot_kept count gap = rw (outs-Zero (slot_type count gap)) tt

-- a combined variable

abbrev slot : ℕ → ℕ → ℕ → Var
slot group count gap = record {
  place = no_place;
  name = group_name group;
  linkage = Private;
  constant = true;
  ty = slot_type count gap;
  init = Some (const.Zero (slot_type count gap));
  align = 8;
  entries = [];
  visibility = 0;
}

slot_written : (group count gap : ℕ) → count < 2 ^ 64 → gap < 2 ^ 64 → IsVar (slot group count gap)
slot_written group count gap few small = record {
  name = group_is_name group;
  type = slot_is_type count gap few small;
  init = slot_init count gap;
  align = omega arith;
}

slot_kept_var : (group count gap : ℕ) → count < 2 ^ 64 → gap < 2 ^ 64 → IsKeptVar (slot group count gap)
slot_kept_var group count gap few small = record {
  linkage = refl;
  init = slot_kept count gap;
  align = ty_low [] levels (slot_type count gap) (slot_is_type count gap few small);
  entries = refl;
  visibility = refl;
}

pub record IsMadeVar (v : Var) : Type 0 where
  pub written : IsVar v
  pub kept : IsKeptVar v

made_var : (group : ℕ) (v : Variable) → v.count ≤ 1000 → IsMadeVar (combined group (variable_of v))
made_var group v few =
    let gap = gap_of (variable_of v) in
    let less : v.count < 2 ^ 64 = omega (arith, few) in
    subst IsMadeVar (sym (combined-variable group v)) (record {
      written = slot_written group v.count gap less (gap_small v few);
      kept = slot_kept_var group v.count gap less (gap_small v few);
    })

pub made_vars : (group : ℕ) (vs : List Variable) → HaveCounts vs → AllByRecursion IsMadeVar (combined_from group (map variable_of vs))
made_vars group [] counts = tt
made_vars group (v ∷ vs) counts =
    let first = All-head (λ (w : Variable). (1 ≤ w.count) × (w.count ≤ 1000)) v vs counts in
    (made_var group v first.1, made_vars (group + 1) vs (All-tail (λ (w : Variable). (1 ≤ w.count) × (w.count ≤ 1000)) v vs counts))
