-- Each shape of a test asks whether the place of an address is held.
use Rattle.std.proofs.Common.{◌≡◌, ℕ, ◌+◌, ◌-◌, ◌/◌, ◌%◌, ◌^◌, ◌<◌, ◌≤◌, inl, inr, Bool, true, false, ◌&&◌, not, List, [], ◌∷◌, refl, sym, ap, subst, ◌∙◌, arith, IsTrue, ◌↔◌}
use Rattle.std.specs.Prelude.{Contains, ◌==◌, nat_le, nat_lt, if◌then◌else◌, slice_index}
use Rattle.std.proofs.lemmas.List.Elements.{All-contains}
use Rattle.std.proofs.lemmas.Bool.{eq-eqb, eqb-true, cases_Bool, leb-true, ltb-true}
use Rattle.std.specs.Int.Bits.{bit_and}
use Rattle.bit_sets.specs.declared.set.BitSet.{BitSet}
use Rattle.bit_sets.specs.declared.set.Kind.TheVariants.{Unsat, Single, AllOnes, Inline, ByteArray}
use Rattle.bit_sets.specs.BitSet.{AreOffsets, least, greatest, size_m1_of, set_bit_of, bit_in, holds_below, set_of, some_set}
use Rattle.bit_sets.specs.Tests.{IsAddress, place_of, is_held, all_ones_test, inline_test, byte_array_test}
use Rattle.bit_sets.specs.Laws.{UnsatIsExact, SingleIsExact, AllOnesIsExact, InlineIsExact, ByteArrayIsExact}
use Rattle.bit_sets.proofs.WordLemmas.{holds-at}
use Rattle.bit_sets.proofs.NumberLemmas.{least-each, greatest-each}
use Rattle.bit_sets.proofs.ExactLemmas.{held-exact, held-bit}

-- What a kind tells.

not_unsat : (span full short : Bool) → (if span then Single else if full then AllOnes else if short then Inline else ByteArray) ≡ Unsat → ⊥
not_unsat true full short is = cc
not_unsat false true short is = cc
not_unsat false false true is = cc
not_unsat false false false is = cc

is_single : (span full short : Bool) → (if span then Single else if full then AllOnes else if short then Inline else ByteArray) ≡ Single → span ≡ true
is_single true full short is = refl
is_single false true short is = cc
is_single false false true is = cc
is_single false false false is = cc

is_all_ones : (span full short : Bool) → (if span then Single else if full then AllOnes else if short then Inline else ByteArray) ≡ AllOnes → full ≡ true
is_all_ones true full short is = cc
is_all_ones false true short is = refl
is_all_ones false false true is = cc
is_all_ones false false false is = cc

is_inline : (span full short : Bool) → (if span then Single else if full then AllOnes else if short then Inline else ByteArray) ≡ Inline → short ≡ true
is_inline true full short is = cc
is_inline false true short is = cc
is_inline false false true is = refl
is_inline false false false is = cc

-- No member.
pub unsat-exact : UnsatIsExact
unsat-exact [] all kind base a base_small a_small = (λ holds. cc, λ address. absurd (omega (arith, address.1.1)))
unsat-exact (member ∷ more) all kind base a base_small a_small =
    let members : List ℕ = member ∷ more in
    absurd (not_unsat (greatest members - least members == 0) (holds_below (set_bit_of members) (size_m1_of members + 1)) (nat_lt (size_m1_of members) 64) kind)

-- One offset.
pub single-exact : SingleIsExact
single-exact [] all kind base a base_small a_small = cc
single-exact (member ∷ more) all kind base a base_small a_small =
    let members : List ℕ = member ∷ more in
    let span : greatest members - least members ≡ 0 =
    eqb-true (greatest members - least members) 0
    (is_single (greatest members - least members == 0) (holds_below (set_bit_of members) (size_m1_of members + 1)) (nat_lt (size_m1_of members) 64) kind) in
    let one : (m : ℕ) → Contains members m → m ≡ least members =
    λ m held.
    let below = All-contains (λ k. least members ≤ k) members m (least-each members) held in
    let above = All-contains (λ k. k ≤ greatest members) members m (greatest-each members) held in
    omega (arith, below, above, span) in
    let first : Contains members member = (0, omega arith, refl) in (
      λ equal. (member, first, eqb-true a ((base + least members) % 2 ^ 64) equal ∙ ap (λ m. (base + m) % 2 ^ 64) (sym (one member first))),
      λ address. eq-eqb a ((base + least members) % 2 ^ 64) (address.2 ∙ ap (λ m. (base + m) % 2 ^ 64) (one address.0 address.1)),
    )

-- All bits.

by_held : (members : List ℕ) (base a : ℕ) (test : Bool) → AreOffsets members → base < 2 ^ 64 → a < 2 ^ 64
    → test ≡ is_held (set_of members) (place_of (set_of members) base a) → IsTrue test ↔ IsAddress members base a
by_held members base a test all base_small a_small same =
    subst (λ t. IsTrue t ↔ IsAddress members base a) (sym same) (held-exact members base a all base_small a_small)

full_within : (q size : ℕ) (bit : Bool) → (nat_le q size ≡ true → bit ≡ true) → nat_le q size ≡ (nat_le q size && bit)
full_within q size bit full = elim (cases_Bool (nat_le q size)) [
  | inl is_so ↦ is_so ∙ sym (ap (λ t. t && bit) is_so ∙ full is_so)
  | inr is_not ↦ is_not ∙ sym (ap (λ t. t && bit) is_not)
]

pub all_ones-exact : AllOnesIsExact
all_ones-exact [] all kind base a base_small a_small = cc
all_ones-exact (member ∷ more) all kind base a base_small a_small =
    let members : List ℕ = member ∷ more in
    let q : ℕ = place_of (some_set members) base a in
    let full = is_all_ones (greatest members - least members == 0) (holds_below (set_bit_of members) (size_m1_of members + 1)) (nat_lt (size_m1_of members) 64) kind in
    by_held members base a (all_ones_test (some_set members) base a) all base_small a_small
    (full_within q (size_m1_of members) (bit_in (some_set members).words q)
    (λ is_so.
    let within = leb-true q (size_m1_of members) is_so in
    held-bit members q within ∙ holds-at (set_bit_of members) (size_m1_of members + 1) q full (omega (arith, within))))

-- A bit of a word or of an array.

chosen_within : (q size : ℕ) (read bit : ℕ → Bool) → ((i : ℕ) → i ≤ size → read i ≡ bit i)
    → (nat_le q size && read (if nat_le q size then q else 0)) ≡ (nat_le q size && bit q)
chosen_within q size read bit same = elim (cases_Bool (nat_le q size)) [
  | inl is_so ↦ ap (λ t. t && read (if t then q else 0)) is_so ∙ same q (leb-true q size is_so) ∙ sym (ap (λ t. t && bit q) is_so)
  | inr is_not ↦ ap (λ t. t && read (if t then q else 0)) is_not ∙ sym (ap (λ t. t && bit q) is_not)
]

pub byte_array-exact : ByteArrayIsExact
byte_array-exact members bytes start mask all holds base a base_small a_small =
    let set : BitSet = set_of members in
    by_held members base a (byte_array_test set bytes start mask base a) all base_small a_small
    (chosen_within (place_of set base a) set.size_m1 (λ i. not (bit_and (slice_index bytes (start + i)) mask == 0)) (bit_in set.words) holds)

pub inline-exact : InlineIsExact
inline-exact [] all kind base a base_small a_small = cc
inline-exact (member ∷ more) all kind base a base_small a_small =
    let members : List ℕ = member ∷ more in
    let set : BitSet = some_set members in
    let short : size_m1_of members < 64 = ltb-true (size_m1_of members) 64
    (is_inline (greatest members - least members == 0) (holds_below (set_bit_of members) (size_m1_of members + 1)) (nat_lt (size_m1_of members) 64) kind) in
    by_held members base a (inline_test set base a) all base_small a_small
    (chosen_within (place_of set base a) set.size_m1 (λ i. slice_index set.words 0 / 2 ^ i % 2 == 1) (bit_in set.words)
    (λ i within. in_word set.words i (omega (arith, within, short)))) where
      in_word : (words : List ℕ) (i : ℕ) → i < 64 → (slice_index words 0 / 2 ^ i % 2 == 1) ≡ bit_in words i
      in_word words i small =
          let word : 0 ≡ i / 64 = omega arith in
          let bit : i ≡ i % 64 = omega arith in
          ap (λ w. slice_index words w / 2 ^ i % 2 == 1) word ∙ ap (λ b. slice_index words (i / 64) / 2 ^ b % 2 == 1) bit
