-- Where the objects of a thin file's output stand.
use Rattle.std.proofs.Common.{◌≡◌, ◌≢◌, ℕ, ◌+◌, ◌-◌, ◌*◌, ◌%◌, ◌^◌, ◌<◌, ◌≤◌, ◌⊎◌, inl, inr, Bool, true, false, zero, suc, max, List, [], ◌∷◌, ◌++◌, map, length, Option, Some, None, option_map, refl, sym, ap, subst, ◌∙◌, slice_get, nat_eq, zero-add, add-zero, arith}
use Rattle.std.proofs.lemmas.Option.{slice_get-map}
use Rattle.std.proofs.lemmas.Bool.{cases_order}
use Rattle.std.specs.Prelude.{if◌then◌else◌}
use Rattle.std.specs.Cmp.Lexicographic.{pointwise}
use Rattle.ir_values.specs.declared.modules.Module.{Module}
use Rattle.ir_values.specs.declared.modules.Var.{Var}
use Rattle.ir_memories.specs.Placement.{Placement, Placeable, AreApart, IsPlaced, placeables, of_variable}
use Rattle.type_metadata.specs.Sizes.{size_of}
use Rattle.type_metadata.specs.Carriers.{extent_of}
use Rattle.thin_files.specs.declared.thin.Thin.{Thin}
use Rattle.thin_files.specs.declared.thin.Variable.{Variable}
use Rattle.thin_files.specs.Thin.{IsAllowed, module_of, variable_of, words_type}
use Rattle.test_lowering.specs.Rewriting.{rewritten, combined, combined_from, combined_type, group_name, pad}
use Rattle.test_lowering.proofs.PlaceLaws.{text_cases, pairs_at, all_at, slice_get-append_left}
use Rattle.test_lowering.proofs.SizeLaws.{size-combined, pad-reaches}
use Rattle.test_lowering.proofs.ExactLaws.{extent_below, words_size, placeable_at, combined_at, variable_at}

-- the combined variable holds the bytes of its variable
pub slot_holds : (v : Variable) → v.count ≤ 1000 → extent_of (variable_of v) ≤ size_of (combined_type (variable_of v))
slot_holds v few =
    in_slot (extent_of (variable_of v)) (pad (extent_of (variable_of v))) (size_of (words_type v.count)) v.count
    (size_of (combined_type (variable_of v))) (pad-reaches (extent_of (variable_of v)) (extent_below v few))
    (words_size v) (size-combined v.count (pad (extent_of (variable_of v)) - size_of (words_type v.count))) where
      in_slot : (extent slot size count whole : ℕ) → extent ≤ slot → size ≡ count * 8 → count * 8 + (slot - size) ≤ whole → extent ≤ whole
      in_slot extent slot size count whole reaches is holds = omega arith

-- The extent of a variable, and where it stands.
pub record Stand (t : Thin) (p : Placement) (k : ℕ) (v : Variable) : Type 0 where
  pub some : 0 < p (group_name k)
  pub within : p (group_name k) + extent_of (variable_of v) ≤ 2 ^ 64

pub stand_of : (t : Thin) → IsAllowed t → (p : Placement) → IsPlaced (rewritten (module_of t)) p → (k : ℕ) (v : Variable) → slice_get t.variables k ≡ Some v → Stand t p k v
stand_of t allowed p placed k v at =
    let object = of_variable (combined k (variable_of v)) in
    let here = placeable_at t k v at in
    let few : (1 ≤ v.count) × (v.count ≤ 1000) = all_at (λ (w : Variable). (1 ≤ w.count) × (w.count ≤ 1000)) t.variables k v allowed.counts at in
    let fits : p (group_name k) + max 1 (size_of (combined_type (variable_of v))) ≤ 2 ^ 64 =
    all_at (λ (o : Placeable). p o.name + o.size ≤ 2 ^ 64) (placeables (rewritten (module_of t))) k object placed.within here in
    let positive : 0 < p (group_name k) = all_at (λ (o : Placeable). 0 < p o.name) (placeables (rewritten (module_of t))) k object placed.not_null here in
    record {
      some = positive;
      within = below_end (p (group_name k)) (extent_of (variable_of v)) (size_of (combined_type (variable_of v))) fits (slot_holds v few.1);
    } where
      below_end : (start extent size : ℕ) → start + max 1 size ≤ 2 ^ 64 → extent ≤ size → start + extent ≤ 2 ^ 64
      below_end start extent size fits within = omega arith

lower : (start extent size end : ℕ) → extent ≤ size → start + max 1 size ≤ end → start + extent ≤ end
lower start extent size end small below = omega arith

-- the combined variables of two variables have no byte in common
apart : (t : Thin) → IsAllowed t → (p : Placement) → IsPlaced (rewritten (module_of t)) p → (i j : ℕ) (u v : Variable) → i < j
    → slice_get t.variables i ≡ Some u → slice_get t.variables j ≡ Some v
    → (p (group_name i) + extent_of (variable_of u) ≤ p (group_name j)) ⊎ (p (group_name j) + extent_of (variable_of v) ≤ p (group_name i))
apart t allowed p placed i j u v before at_i at_j =
    let few_u : (1 ≤ u.count) × (u.count ≤ 1000) = all_at (λ (w : Variable). (1 ≤ w.count) × (w.count ≤ 1000)) t.variables i u allowed.counts at_i in
    let few_v : (1 ≤ v.count) × (v.count ≤ 1000) = all_at (λ (w : Variable). (1 ≤ w.count) × (w.count ≤ 1000)) t.variables j v allowed.counts at_j in
    by_side (pairs_at (AreApart p) (placeables (rewritten (module_of t))) i j (of_variable (combined i (variable_of u))) (of_variable (combined j (variable_of v)))
    placed.apart before (placeable_at t i u at_i) (placeable_at t j v at_j)) (slot_holds u few_u.1) (slot_holds v few_v.1) where
      by_side : (p (group_name i) + max 1 (size_of (combined_type (variable_of u))) ≤ p (group_name j))
          ⊎ (p (group_name j) + max 1 (size_of (combined_type (variable_of v))) ≤ p (group_name i))
          → extent_of (variable_of u) ≤ size_of (combined_type (variable_of u)) → extent_of (variable_of v) ≤ size_of (combined_type (variable_of v))
          → (p (group_name i) + extent_of (variable_of u) ≤ p (group_name j)) ⊎ (p (group_name j) + extent_of (variable_of v) ≤ p (group_name i))
      by_side (inl first) small_u small_v = inl (lower (p (group_name i)) (extent_of (variable_of u)) (size_of (combined_type (variable_of u))) (p (group_name j)) small_u first)
      by_side (inr first) small_u small_v = inr (lower (p (group_name j)) (extent_of (variable_of v)) (size_of (combined_type (variable_of v))) (p (group_name i)) small_v first)

-- an address within a variable's extent is of no other variable, and of one offset
pub one_address : (t : Thin) → IsAllowed t → (p : Placement) → IsPlaced (rewritten (module_of t)) p → (i j : ℕ) (u v : Variable)
    → slice_get t.variables i ≡ Some u → slice_get t.variables j ≡ Some v → (a b : ℕ) → a < extent_of (variable_of u) → b < extent_of (variable_of v)
    → (p (group_name i) + a) % 2 ^ 64 ≡ (p (group_name j) + b) % 2 ^ 64 → (i ≡ j) × (a ≡ b)
one_address t allowed p placed i j u v at_i at_j a b in_u in_v same =
    let stand_u = stand_of t allowed p placed i u at_i in
    let stand_v = stand_of t allowed p placed j v at_j in
    elim (cases_order i j) [
      | inl equal ↦ (
        equal,
        one_offset (p (group_name i)) (p (group_name j)) (extent_of (variable_of u)) (extent_of (variable_of v)) a b in_u in_v
            stand_u.within stand_v.within (ap (λ k. p (group_name k)) equal) same,
      )
      | inr order ↦ elim order [
        | inl before ↦ absurd (no_address (p (group_name i)) (p (group_name j)) (extent_of (variable_of u)) (extent_of (variable_of v)) a b in_u in_v
            stand_u.within stand_v.within same (apart t allowed p placed i j u v before at_i at_j))
        | inr behind ↦ absurd (no_address (p (group_name j)) (p (group_name i)) (extent_of (variable_of v)) (extent_of (variable_of u)) b a in_v in_u
            stand_v.within stand_u.within (sym same) (apart t allowed p placed j i v u behind at_j at_i))
      ]
    ] where
      one_offset : (start start' end end' a b : ℕ) → a < end → b < end' → start + end ≤ 2 ^ 64 → start' + end' ≤ 2 ^ 64 → start ≡ start'
          → (start + a) % 2 ^ 64 ≡ (start' + b) % 2 ^ 64 → a ≡ b
      one_offset start start' end end' a b in_one in_other fits fits' is same = omega arith

      no_address : (start start' end end' a b : ℕ) → a < end → b < end' → start + end ≤ 2 ^ 64 → start' + end' ≤ 2 ^ 64
          → (start + a) % 2 ^ 64 ≡ (start' + b) % 2 ^ 64 → (start + end ≤ start') ⊎ (start' + end' ≤ start) → ⊥
      no_address start start' end end' a b in_one in_other fits fits' same (inl below) = omega arith
      no_address start start' end end' a b in_one in_other fits fits' same (inr below) = omega arith
