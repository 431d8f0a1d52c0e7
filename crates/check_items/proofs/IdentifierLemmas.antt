-- The identifiers of one unit more.
use Rattle.std.proofs.Common.{◌≡◌, ◌∙◌, refl, sym, ap, ℕ, zero, suc, ◌+◌, ◌-◌, ◌<◌, ◌≤◌, true, false, ◌||◌, nat_lt, nat_le, List, [], ◌∷◌, ◌++◌, length, take, drop, get_or, btree_set_len, BTreeSet, arith, add-one, take-suc, take-add, append-nil, Some}
use Rattle.std.specs.Prelude.{flat_map}
use Rattle.std.specs.Ordering.{nat_cmp}
use Rattle.std.specs.Cmp.Lexicographic.{slice_cmp}
use Rattle.std.specs.Str.{bytes_eq}
use Rattle.std.specs.BTreeSet.{IsOrdered}
use Rattle.std.proofs.lemmas.Grind.{flat_map-append}
use Rattle.std.proofs.lemmas.List.{length-append}
use Rattle.std.proofs.lemmas.List.Folds.{list_any-append}
use Rattle.ltt_base.specs.declared.refusal.Placed.{Placed}
use Rattle.ir_values.specs.declared.units.Unit as unit
use Rattle.check_items.specs.Found.{has, is_in, Holds}
use Rattle.check_items.specs.Identifiers.{unit_identifiers, identifiers_to, most_counted, has_too_many, is_reached}
use Rattle.check_items.proofs.FoundLemmas.{len-different, len-least}

take-append : {X : Type 0} (n : ℕ) (xs ys : List X) → take n (xs ++ ys) ≡ take n xs ++ take (n - length xs) ys
take-append zero [] ys = refl
take-append (suc n) [] ys = let all : suc n ≡ suc n - 0 = omega arith in ap (λ m. take m ys) all
take-append zero (x ∷ xs) ys = let none : 0 ≡ 0 - suc (length xs) = omega arith in ap (λ m. take m ys) none
take-append (suc n) (x ∷ xs) ys =
    let less : n - length xs ≡ suc n - suc (length xs) = omega arith in
    ap (λ zs. x ∷ zs) (take-append n xs ys ∙ ap (λ m. take n xs ++ take m ys) less)

one_more : (us : List (Placed unit.Unit)) (at : ℕ) (d : Placed unit.Unit) → at < length us
    → flat_map (unit_identifiers us) (take (at + 1) us) ≡ flat_map (unit_identifiers us) (take at us) ++ unit_identifiers us (get_or us at d)
one_more us at d inside =
    ap (flat_map (unit_identifiers us)) (rw add-one (take-suc us at d inside))
    ∙ flat_map-append (unit_identifiers us) (take at us) (get_or us at d ∷ [])
    ∙ ap (λ names. flat_map (unit_identifiers us) (take at us) ++ names) (append-nil (unit_identifiers us (get_or us at d)))

-- the set behind one unit more
pub holds_more : (us : List (Placed unit.Unit)) (at left : ℕ) (d : Placed unit.Unit) (names : List (List ℕ)) (old new : BTreeSet (List ℕ)) → at < length us
    → names ≡ unit_identifiers us (get_or us at d) → left ≡ most_counted - length (flat_map (unit_identifiers us) (take at us)) → Holds (identifiers_to us at) old
    → ((q : List ℕ) → has q new ≡ (has q old || is_in q (take left names))) → Holds (identifiers_to us (at + 1)) new
holds_more us at left d names old new inside own much held put q =
    let before : List (List ℕ) = flat_map (unit_identifiers us) (take at us) in
    let joined : identifiers_to us (at + 1) ≡ identifiers_to us at ++ take left names =
    ap (take most_counted) (one_more us at d inside) ∙ take-append most_counted before (unit_identifiers us (get_or us at d))
    ∙ ap (λ n. take most_counted before ++ take n (unit_identifiers us (get_or us at d))) (sym much)
    ∙ ap (λ ns. take most_counted before ++ take left ns) (sym own) in
    put q ∙ ap (λ b. b || is_in q (take left names)) (held q)
    ∙ sym (list_any-append (bytes_eq q) (identifiers_to us at) (take left names)) ∙ ap (is_in q) (sym joined)

-- how many identifiers still count behind one unit more
pub left_more : (us : List (Placed unit.Unit)) (at left rest : ℕ) (d : Placed unit.Unit) (names : List (List ℕ)) → at < length us
    → names ≡ unit_identifiers us (get_or us at d) → left ≡ most_counted - length (flat_map (unit_identifiers us) (take at us)) → rest ≡ left - length names
    → rest ≡ most_counted - length (flat_map (unit_identifiers us) (take (at + 1) us))
left_more us at left rest d names inside own much is =
    let longer : length (flat_map (unit_identifiers us) (take (at + 1) us)) ≡ length (flat_map (unit_identifiers us) (take at us)) + length names =
    ap length (one_more us at d inside) ∙ length-append (flat_map (unit_identifiers us) (take at us)) (unit_identifiers us (get_or us at d))
    ∙ ap (λ ns. length (flat_map (unit_identifiers us) (take at us)) + length ns) (sym own) in
    omega (arith, longer, much, is)

found_first : (q : List ℕ) (xs ys : List (List ℕ)) → is_in q xs ≡ true → is_in q (xs ++ ys) ≡ true
found_first q xs ys is = list_any-append (bytes_eq q) xs ys ∙ ap (λ b. b || is_in q ys) is

-- a name among the identifiers is among those of more units
stays : (us : List (Placed unit.Unit)) (n more : ℕ) (q : List ℕ) → is_in q (identifiers_to us n) ≡ true → is_in q (identifiers_to us (n + more)) ≡ true
stays us n more q is =
    let front : List (List ℕ) = flat_map (unit_identifiers us) (take n us) in
    let back : List (List ℕ) = flat_map (unit_identifiers us) (take more (drop n us)) in
    let joined : identifiers_to us (n + more) ≡ take most_counted front ++ take (most_counted - length front) back =
    ap (λ vs. take most_counted (flat_map (unit_identifiers us) vs)) (take-add n more us)
    ∙ ap (take most_counted) (flat_map-append (unit_identifiers us) (take n us) (take more (drop n us)))
    ∙ take-append most_counted front back in
    ap (is_in q) joined ∙ found_first q (take most_counted front) (take (most_counted - length front) back) is

-- whether there are too many is told by the size of the set
pub told : (us : List (Placed unit.Unit)) (at : ℕ) (found : BTreeSet (List ℕ)) → IsOrdered (slice_cmp nat_cmp) found
    → Holds (identifiers_to us (at + 1)) found → has_too_many us at ≡ nat_lt 65536 (btree_set_len found)
unfolding has_too_many
told us at found ordered holds = ap (nat_lt 65536) (sym (len-different (identifiers_to us (at + 1)) found ordered holds))

-- where there are too many with one unit, there are with each behind it
pub told_on : (us : List (Placed unit.Unit)) (at n : ℕ) (found : BTreeSet (List ℕ)) → IsOrdered (slice_cmp nat_cmp) found
    → Holds (identifiers_to us (at + 1)) found → 65536 < btree_set_len found → at ≤ n → has_too_many us n ≡ true
unfolding has_too_many
told_on us at n found ordered holds past behind =
    let more : (at + 1) + (n - at) ≡ n + 1 = omega (arith, behind) in
    let among : (q : List ℕ) → has q found ≡ true → is_in q (identifiers_to us (n + 1)) ≡ true =
    λ q is. ap (λ m. is_in q (identifiers_to us m)) (sym more) ∙ stays us (at + 1) (n - at) q (sym (holds q) ∙ is) in
    let least = len-least found (identifiers_to us (n + 1)) ordered among in
    grind arith

-- the first unit with which there are too many
pub first_told : (us : List (Placed unit.Unit)) (at : ℕ) (found : BTreeSet (List ℕ)) → IsOrdered (slice_cmp nat_cmp) found
    → Holds (identifiers_to us (at + 1)) found → 65536 < btree_set_len found → ((n : ℕ) → n < at → has_too_many us n ≡ false)
    → (n : ℕ) → has_too_many us n ≡ is_reached (Some at) n
first_told us at found ordered holds past before n =
    elim (nat_le at n) as (λ b. nat_le at n ≡ b → has_too_many us n ≡ b) [
      | true ↦ λ behind. told_on us at n found ordered holds past (grind arith)
      | false ↦ λ earlier. before n (grind arith)
    ] refl

-- one unit more with which there aren't too many
pub none_more : (us : List (Placed unit.Unit)) (at : ℕ) (found : BTreeSet (List ℕ)) → IsOrdered (slice_cmp nat_cmp) found
    → Holds (identifiers_to us (at + 1)) found → btree_set_len found ≤ 65536 → ((n : ℕ) → n < at → has_too_many us n ≡ false)
    → (n : ℕ) → n < at + 1 → has_too_many us n ≡ false
none_more us at found ordered holds within before n low =
    elim (nat_lt n at) as (λ b. nat_lt n at ≡ b → has_too_many us n ≡ false) [
      | true ↦ λ earlier. before n (grind arith)
      | false ↦ λ here. let same : n ≡ at = grind arith in
          ap (has_too_many us) same ∙ told us at found ordered holds ∙ grind arith
    ] refl
