-- The place of an address has its bit set exactly where the address is that of a member.
use Rattle.std.proofs.Common.{◌≡◌, ℕ, ◌+◌, ◌-◌, ◌*◌, ◌/◌, ◌%◌, ◌^◌, ◌<◌, ◌≤◌, inl, inr, suc, Bool, true, false, ◌&&◌, List, [], ◌∷◌, length, get_or, refl, sym, ap, subst, ◌∙◌, arith, IsTrue, ◌↔◌}
use Rattle.std.specs.Prelude.{Contains, ◌==◌, nat_le}
use Rattle.std.specs.Int.{rotate_right, w64}
use Rattle.std.proofs.Math.Nat.{pow-le-pow_right}
use Rattle.std.proofs.lemmas.List.Folds.{list_any_at}
use Rattle.std.proofs.lemmas.List.Elements.{All-contains}
use Rattle.std.proofs.lemmas.Bool.{eq-eqb, eqb-true, or_cases, and_parts, and_from, le-leb, leb-true, true≢false}
use Rattle.std.proofs.lemmas.Nat.Bits.{bit_at-zero}
use Rattle.bit_sets.specs.declared.set.BitSet.{BitSet}
use Rattle.bit_sets.specs.BitSet.{AreOffsets, least, align_of, size_m1_of, IsBit, set_bit_of, bit_in, is_member, word_count, words_from, set_of, some_set}
use Rattle.bit_sets.specs.Tests.{IsAddress, difference, place_of, is_held}
use Rattle.bit_sets.proofs.RotationLemmas.{small_rotation, multiple_rotation}
use Rattle.bit_sets.proofs.NumberLemmas.{size-small, bits-each, align-small, least-each}
use Rattle.bit_sets.proofs.SetLemmas.{bit_in-words}

pub contains-member : (members : List ℕ) (offset : ℕ) → Contains members offset → is_member members offset ≡ true
contains-member members offset (k, within, at) = list_any_at (λ member. member == offset) members k offset within (eq-eqb (get_or members k offset) offset at)

pub member-contains : (members : List ℕ) (offset : ℕ) → is_member members offset ≡ true → Contains members offset
member-contains [] offset is = cc
member-contains (member ∷ more) offset is =
    elim (or_cases (member == offset) (is_member more offset) is) [
      | inl here ↦ (0, omega arith, eqb-true member offset here)
      | inr later ↦ step (member-contains more offset later)
    ] where
      step : Contains more offset → Contains (member ∷ more) offset
      step (k, within, at) = (suc k, omega arith, at)

-- the bit that a place has
pub held-bit : (members : List ℕ) (i : ℕ) → i ≤ size_m1_of members → bit_in (words_from (set_bit_of members) 0 (word_count (size_m1_of members))) i ≡ set_bit_of members i
held-bit members i within = bit_in-words (set_bit_of members) (word_count (size_m1_of members)) i (in_words (size_m1_of members) within) where
  in_words : (s : ℕ) → i ≤ s → i / 64 < word_count s
  in_words s within = omega arith

room : (align size : ℕ) → align < 27 → size < 2 ^ 27 → size < 2 ^ (64 - align)
room align size align_small small =
    let wide : 27 ≤ 64 - align = omega arith in
    let h : 2 ^ 27 ≤ 2 ^ (64 - align) = pow-le-pow_right (omega arith) wide in
    omega (arith, h)

distance_there : (base low a d x : ℕ) → base < 2 ^ 64 → a < 2 ^ 64 → low < 2 ^ 64 → d ≡ (a + (2 ^ 64 - (base + low) % 2 ^ 64)) % 2 ^ 64 → d ≡ x → a ≡ (base + (low + x)) % 2 ^ 64
distance_there base low a d x base_small a_small low_small is same = omega arith

distance_back : (base low a d x : ℕ) → base < 2 ^ 64 → low + x < 2 ^ 64 → d ≡ (a + (2 ^ 64 - (base + low) % 2 ^ 64)) % 2 ^ 64 → a ≡ (base + (low + x)) % 2 ^ 64 → d ≡ x
distance_back base low a d x base_small fits is same = omega arith

mod_small : (n : ℕ) → n % 2 ^ 64 < 2 ^ 64
mod_small n = omega arith

-- the same at plain numbers: d is the distance, q its rotation
there_at : (base low a align size q : ℕ) → base < 2 ^ 64 → a < 2 ^ 64 → low < 2 ^ 64 → align < 27 → size < 2 ^ 27
    → rotate_right w64 (difference a ((base + low) % 2 ^ 64)) align ≡ q → q ≤ size → a ≡ (base + (low + q * 2 ^ align)) % 2 ^ 64
there_at base low a align size q base_small a_small low_small align_small size_small is within =
    let wide = room align size align_small size_small in
    let d_is : difference a ((base + low) % 2 ^ 64) ≡ q * 2 ^ align =
    small_rotation (difference a ((base + low) % 2 ^ 64)) (64 - align) align q (omega (arith, align_small)) (omega (arith, align_small))
    (mod_small (a + (2 ^ 64 - (base + low) % 2 ^ 64))) is (omega (arith, within, wide)) in
    distance_there base low a (difference a ((base + low) % 2 ^ 64)) (q * 2 ^ align) base_small a_small low_small refl d_is

back_at : (base low a align size y : ℕ) → base < 2 ^ 64 → align < 27 → size < 2 ^ 27 → y ≤ size → low + y * 2 ^ align < 2 ^ 64
    → a ≡ (base + (low + y * 2 ^ align)) % 2 ^ 64 → rotate_right w64 (difference a ((base + low) % 2 ^ 64)) align ≡ y
back_at base low a align size y base_small align_small size_small within fits at =
    let wide = room align size align_small size_small in
    ap (λ d. rotate_right w64 d align) (distance_back base low a (difference a ((base + low) % 2 ^ 64)) (y * 2 ^ align) base_small fits refl at)
    ∙ multiple_rotation y (64 - align) align (omega (arith, align_small)) (omega (arith, align_small)) (omega (arith, within, wide))

pub least-small : (members : List ℕ) → AreOffsets members → 0 < length members → least members < 2 ^ 27
least-small members all some =
    let below = least-each members 0 0 some in
    let first = all 0 0 some in
    omega (arith, below, first)

-- a place up to `size_m1` with its bit set is that of a member's address
there : (members : List ℕ) (base a : ℕ) → AreOffsets members → 0 < length members → base < 2 ^ 64 → a < 2 ^ 64
    → place_of (some_set members) base a ≤ size_m1_of members → set_bit_of members (place_of (some_set members) base a) ≡ true → IsAddress members base a
there members base a all some base_small a_small within set =
    let offset : ℕ = least members + place_of (some_set members) base a * 2 ^ align_of members in
    let low_small = least-small members all some in (
      offset,
      member-contains members offset set,
      there_at base (least members) a (align_of members) (size_m1_of members) (place_of (some_set members) base a) base_small a_small (omega (arith, low_small))
          (align-small members all) (size-small members all) refl within,
    )

-- the address of a member has such a place
back : (members : List ℕ) (base a : ℕ) → AreOffsets members → base < 2 ^ 64 → IsAddress members base a
    → (place_of (some_set members) base a ≤ size_m1_of members) × (set_bit_of members (place_of (some_set members) base a) ≡ true)
back members base a all base_small (member, held, at) =
    let low : ℕ = least members in
    let align : ℕ = align_of members in
    let y : ℕ = (member - low) / 2 ^ align in
    let is : IsBit low align (size_m1_of members) member = All-contains (IsBit low align (size_m1_of members)) members member (bits-each members all) held in
    let whole : low + y * 2 ^ align ≡ member = whole_from low member (y * 2 ^ align) is.above is.on_step in
    let small : member < 2 ^ 27 = All-contains (λ m. m < 2 ^ 27) members member all held in
    let found : place_of (some_set members) base a ≡ y =
    back_at base low a align (size_m1_of members) y base_small (align-small members all) (size-small members all) is.within
    (subst (λ n. n < 2 ^ 64) (sym whole) (omega (arith, small))) (at ∙ ap (λ m. (base + m) % 2 ^ 64) (sym whole)) in (
      subst (λ n. n ≤ size_m1_of members) (sym found) is.within,
      ap (set_bit_of members) found ∙ ap (is_member members) whole ∙ contains-member members member held,
    ) where
      whole_from : (low member times : ℕ) → low ≤ member → times ≡ member - low → low + times ≡ member
      whole_from low member times above is = omega arith

pub held-exact : (members : List ℕ) (base a : ℕ) → AreOffsets members → base < 2 ^ 64 → a < 2 ^ 64
    → IsTrue (is_held (set_of members) (place_of (set_of members) base a)) ↔ IsAddress members base a
held-exact [] base a all base_small a_small = (
  λ held. absurd (never (nat_le (place_of (set_of []) base a) 0) (bit_in [] (place_of (set_of []) base a)) (bit_in-none (place_of (set_of []) base a)) held),
  λ address. absurd (omega (arith, address.1.1)),
) where
  bit_in-none : (i : ℕ) → bit_in [] i ≡ false
  bit_in-none i = ap (λ n. n == 1) (bit_at-zero (i % 64))

  never : (x y : Bool) → y ≡ false → (x && y) ≡ true → ⊥
  never x y unset held = let h = and_parts x y held in true≢false (sym h.1 ∙ unset)
held-exact (member ∷ more) base a all base_small a_small =
    let members : List ℕ = member ∷ more in
    let q : ℕ = place_of (some_set members) base a in (
      λ held.
          let parts = and_parts (nat_le q (size_m1_of members)) (bit_in (some_set members).words q) held in
          let within = leb-true q (size_m1_of members) parts.0 in
          there members base a all (omega arith) base_small a_small within (sym (held-bit members q within) ∙ parts.1),
      λ address.
          let found = back members base a all base_small address in
          and_from (nat_le q (size_m1_of members)) (bit_in (some_set members).words q) (le-leb q (size_m1_of members) found.0) (held-bit members q found.0 ∙ found.1),
    )

-- the set's own test, which has no group's address
pub has-exact : (members : List ℕ) (set : BitSet) (offset : ℕ) → offset < 2 ^ 64 → AreOffsets members → set ≡ set_of members
    → IsTrue (is_held set (rotate_right w64 (difference offset set.min) set.align)) ↔ Contains members offset
has-exact members set offset small all is =
    let min_small : set.min < 2 ^ 64 = subst (λ (s : BitSet). s.min < 2 ^ 64) (sym is) (min-small members all) in
    let start : (0 + set.min) % 2 ^ 64 ≡ set.min = omega arith in
    let same : is_held set (rotate_right w64 (difference offset set.min) set.align) ≡ is_held (set_of members) (place_of (set_of members) 0 offset) =
    ap (λ n. is_held set (rotate_right w64 (difference offset n) set.align)) (sym start) ∙ ap (λ (s : BitSet). is_held s (place_of s 0 offset)) is in
    let exact = held-exact members 0 offset all (omega arith) small in (
      λ held. contained (exact.0 (sym same ∙ held)),
      λ held. same ∙ exact.1 (offset, held, within),
    ) where
      within : offset ≡ (0 + offset) % 2 ^ 64
      within = omega arith

      contained : IsAddress members 0 offset → Contains members offset
      contained (member, held, at) =
          let m_small = All-contains (λ m. m < 2 ^ 27) members member all held in
          subst (Contains members) (whole member offset m_small at) held where
            whole : (m o : ℕ) → m < 2 ^ 27 → o ≡ (0 + m) % 2 ^ 64 → m ≡ o
            whole m o m_small at = omega arith

      min-small : (members : List ℕ) → AreOffsets members → (set_of members).min < 2 ^ 64
      min-small [] all = omega arith
      min-small (member ∷ more) all = omega (arith, least-small (member ∷ more) all (omega arith))
