-- The numbers of a set: its least and greatest member, the mask of the distances, and the alignment.
use Rattle.std.proofs.Common.{◌≡◌, ◌≢◌, ℕ, ◌+◌, ◌-◌, ◌*◌, ◌/◌, ◌%◌, ◌^◌, ◌<◌, ◌≤◌, ◌⊎◌, inl, inr, zero, suc, Bool, List, [], ◌∷◌, length, get_or, set, refl, sym, ap, subst, ◌∙◌, arith, min, max, fold}
use Rattle.std.specs.Prelude.{if◌then◌else◌}
use Rattle.std.specs.Prelude.{All, Contains}
use Rattle.std.proofs.lemmas.List.{get_or_default, length-set, get_or-set_same, get_or-set_other}
use Rattle.std.specs.Int.{bit_at, trailing_zeros, w64}
use Rattle.std.specs.Int.Bits.{bit_or}
use Rattle.std.proofs.lemmas.Nat.{or_lt, or_mod, le_or_l, le_or_r, shr_split, mod_below, pow_pos, shr_le, le-div}
use Rattle.std.proofs.Math.Nat.{pow-le-pow_right}
use Rattle.std.proofs.lemmas.Nat.Bits.{bit_at_cat_low, bit_at-zero, bit_at_above, bit_at-trailing_zeros, same_from_bits_below}
use Rattle.std.proofs.lemmas.List.Elements.{All-head, All-tail}
use Rattle.std.proofs.lemmas.Bool.{cases_lt, cases_eq, eq-eqb, ne_eqb}
use Rattle.bit_sets.specs.BitSet.{AreOffsets, least, greatest, mask_from, align_of_mask, align_of, size_m1_of, IsBit}

-- Least and greatest.

min_le_left : (a b : ℕ) → min a b ≤ a
min_le_left a b = omega arith

least_from_start : (a : ℕ) (members : List ℕ) → fold min a members ≤ a
least_from_start a [] = omega arith
least_from_start a (member ∷ more) = omega (arith, least_from_start (min a member) more)

least_from_each : (a : ℕ) (members : List ℕ) → All (λ member. fold min a members ≤ member) members
least_from_each a [] k d within = absurd (omega arith)
least_from_each a (member ∷ more) zero d within = omega (arith, least_from_start (min a member) more)
least_from_each a (member ∷ more) (suc k) d within = least_from_each (min a member) more k d (omega arith)

least_from_reached : (a : ℕ) (members : List ℕ) → (fold min a members ≡ a) ⊎ Contains members (fold min a members)
least_from_reached a [] = inl refl
least_from_reached a (member ∷ more) = elim (least_from_reached (min a member) more) [
  | inl start ↦ by_order (cases_lt a member) start
  | inr (k, within, at) ↦ inr (suc k, omega arith, at)
] where
  by_order : (a < member) ⊎ (member ≤ a) → fold min (min a member) more ≡ min a member
      → (fold min (min a member) more ≡ a) ⊎ Contains (member ∷ more) (fold min (min a member) more)
  by_order (inl less) start = inl (omega (arith, start, less))
  by_order (inr reached) start = inr (0, omega arith, omega (arith, start, reached))

-- the least is one of them
pub least-reached : (members : List ℕ) → 0 < length members → (k : ℕ) × (k < length members) × (get_or members k 0 ≡ least members)
least-reached members some = elim (least_from_reached (get_or members 0 0) members) [
  | inl start ↦ (0, some, sym start)
  | inr (k, within, at) ↦ (k, within, get_or_default members k 0 (least members) within ∙ at)
]

pub least-each : (members : List ℕ) → All (λ member. least members ≤ member) members
least-each members = least_from_each (get_or members 0 0) members

greatest_from_start : (a : ℕ) (members : List ℕ) → a ≤ fold max a members
greatest_from_start a [] = omega arith
greatest_from_start a (member ∷ more) = omega (arith, greatest_from_start (max a member) more)

greatest_from_each : (a : ℕ) (members : List ℕ) → All (λ member. member ≤ fold max a members) members
greatest_from_each a [] k d within = absurd (omega arith)
greatest_from_each a (member ∷ more) zero d within = omega (arith, greatest_from_start (max a member) more)
greatest_from_each a (member ∷ more) (suc k) d within = greatest_from_each (max a member) more k d (omega arith)

pub greatest-each : (members : List ℕ) → All (λ member. member ≤ greatest members) members
greatest-each members = greatest_from_each 0 members

greatest_from_at_most : (a b : ℕ) (members : List ℕ) → a ≤ b → All (λ member. member ≤ b) members → fold max a members ≤ b
greatest_from_at_most a b [] start all = start
greatest_from_at_most a b (member ∷ more) start all =
    let head = All-head (λ m. m ≤ b) member more all in
    greatest_from_at_most (max a member) b more (omega (arith, start, head)) (All-tail (λ m. m ≤ b) member more all)

pub greatest-at_most : (b : ℕ) (members : List ℕ) → All (λ member. member ≤ b) members → greatest members ≤ b
greatest-at_most b members all = greatest_from_at_most 0 b members (omega arith) all

pub each-at_most : (b : ℕ) (members : List ℕ) → greatest members ≤ b → All (λ member. member ≤ b) members
each-at_most b members most k d within = let here = greatest-each members k d within in omega (arith, here, most)

-- a number made greater
pub greatest-set : (members : List ℕ) (i n : ℕ) → get_or members i 0 ≤ n → greatest members ≤ greatest (set members i n)
greatest-set members i n more = greatest-at_most (greatest (set members i n)) members each where
  within_set : (k : ℕ) → k < length members → k < length (set members i n)
  within_set k within = rw length-set within

  each : All (λ member. member ≤ greatest (set members i n)) members
  each k d within = elim (cases_eq k i) [
    | inl same ↦ at_place same
    | inr other ↦
        subst (λ m. m ≤ greatest (set members i n)) (get_or-set_other members i k n d other)
        (greatest-each (set members i n) k d (within_set k within))
  ] where
    at_place : k ≡ i → get_or members k d ≤ greatest (set members i n)
    at_place same =
        let inside : i < length members = subst (λ j. j < length members) same within in
        let here : get_or (set members i n) i d ≡ n = get_or-set_same members i n d inside in
        let reached : get_or (set members i n) i d ≤ greatest (set members i n) =
        greatest-each (set members i n) i d (subst (λ j. j < length (set members i n)) same (within_set k within)) in
        let read : get_or members k d ≡ get_or members i 0 = ap (λ j. get_or members j d) same ∙ sym (get_or_default members i 0 d inside) in
        omega (arith, here, reached, read, more)

greatest_from_below : (a b : ℕ) (members : List ℕ) → a < b → All (λ member. member < b) members → fold max a members < b
greatest_from_below a b [] start all = start
greatest_from_below a b (member ∷ more) start all =
    let head = All-head (λ m. m < b) member more all in
    greatest_from_below (max a member) b more (omega (arith, start, head)) (All-tail (λ m. m < b) member more all)

pub greatest-below : (members : List ℕ) → AreOffsets members → greatest members < 2 ^ 27
greatest-below members all = greatest_from_below 0 (2 ^ 27) members (omega arith) all

-- The mask.

joined : ℕ → ℕ → ℕ → ℕ
joined low mask member = bit_or mask (member - low)

mask_below : (low mask : ℕ) (members : List ℕ) → mask < 2 ^ 27 → AreOffsets members → fold (λ m member. bit_or m (member - low)) mask members < 2 ^ 27
mask_below low mask [] small all = small
mask_below low mask (member ∷ more) small all =
    let head = All-head (λ m. m < 2 ^ 27) member more all in
    let distance : member - low < 2 ^ 27 = omega (arith, head) in
    mask_below low (bit_or mask (member - low)) more (or_lt 27 mask (member - low) small distance) (All-tail (λ m. m < 2 ^ 27) member more all)

pub mask-below : (low : ℕ) (members : List ℕ) → AreOffsets members → mask_from low members < 2 ^ 27
mask-below low members all = mask_below low 0 members (omega arith) all

mask_keeps : (low mask k : ℕ) (members : List ℕ) → mask % 2 ^ k ≤ fold (λ m member. bit_or m (member - low)) mask members % 2 ^ k
mask_keeps low mask k [] = omega arith
mask_keeps low mask k (member ∷ more) =
    let kept : mask % 2 ^ k ≤ bit_or mask (member - low) % 2 ^ k =
    subst (λ n. mask % 2 ^ k ≤ n) (sym (or_mod mask (member - low) k)) (le_or_l (mask % 2 ^ k) ((member - low) % 2 ^ k)) in
    omega (arith, kept, mask_keeps low (bit_or mask (member - low)) k more)

mask_takes : (low mask k : ℕ) (members : List ℕ) → All (λ member. (member - low) % 2 ^ k ≤ fold (λ m member'. bit_or m (member' - low)) mask members % 2 ^ k) members
mask_takes low mask k [] i d within = absurd (omega arith)
mask_takes low mask k (member ∷ more) zero d within =
    let taken : (member - low) % 2 ^ k ≤ bit_or mask (member - low) % 2 ^ k =
    subst (λ n. (member - low) % 2 ^ k ≤ n) (sym (or_mod mask (member - low) k)) (le_or_r (mask % 2 ^ k) ((member - low) % 2 ^ k)) in
    omega (arith, taken, mask_keeps low (bit_or mask (member - low)) k more)
mask_takes low mask k (member ∷ more) (suc i) d within = mask_takes low (bit_or mask (member - low)) k more i d (omega arith)

-- The alignment.

low_bits_none : (n k : ℕ) → ((i : ℕ) → i < k → bit_at n i ≡ 0) → n % 2 ^ k ≡ 0
low_bits_none n k none =
    same_from_bits_below k (n % 2 ^ k) 0 (mod_below n (2 ^ k) (pow_pos k)) (pow_pos k)
    (λ i below. sym (bit_at_cat_low (n / 2 ^ k) k (n % 2 ^ k) i below) ∙ ap (λ m. bit_at m i) (shr_split n k) ∙ none i below ∙ sym (bit_at-zero i))

-- no bit of the mask stands below the alignment, which is small
pub record IsAlignOf (mask align : ℕ) : Type 0 where
  pub none_below : mask % 2 ^ align ≡ 0
  pub small : align < 27

aligned_none : (mask : ℕ) → mask ≡ 0 → IsAlignOf mask (align_of_mask mask)
aligned_none mask none = subst (IsAlignOf mask) (ap (λ (b : Bool). if b then 0 else trailing_zeros w64 mask) (sym (eq-eqb mask 0 none)))
    (record { none_below = omega arith; small = omega arith })

set_bit_is_below : (n k : ℕ) → bit_at n k ≡ 1 → 2 ^ k ≤ n
set_bit_is_below n k is = elim (cases_lt n (2 ^ k)) [ inl below ↦ absurd (differ (bit_at_above n k k below (omega arith))) | inr reached ↦ reached ] where
  differ : bit_at n k ≡ 0 → ⊥
  differ none = let h = sym is ∙ none in omega (arith, h)

below_27 : (n k : ℕ) → n < 2 ^ 27 → 2 ^ k ≤ n → k < 27
below_27 n k small reached = elim (cases_lt k 27) [ inl below ↦ below | inr past ↦ absurd (at_least past) ] where
  at_least : 27 ≤ k → ⊥
  at_least past = let h : 2 ^ 27 ≤ 2 ^ k = pow-le-pow_right (omega arith) past in omega (arith, h)

aligned_some : (mask : ℕ) → mask < 2 ^ 27 → mask ≢ 0 → IsAlignOf mask (align_of_mask mask)
aligned_some mask small some =
    let bits = bit_at-trailing_zeros w64 mask (omega arith) (omega arith) in
    subst (IsAlignOf mask) (ap (λ (b : Bool). if b then 0 else trailing_zeros w64 mask) (sym (ne_eqb mask 0 some)))
    (record {
      none_below = low_bits_none mask (trailing_zeros w64 mask) bits.2;
      small = below_27 mask (trailing_zeros w64 mask) small (set_bit_is_below mask (trailing_zeros w64 mask) bits.1);
    })

pub align-mask : (mask : ℕ) → mask < 2 ^ 27 → IsAlignOf mask (align_of_mask mask)
align-mask mask small = elim (cases_eq mask 0) [ inl none ↦ aligned_none mask none | inr some ↦ aligned_some mask small some ]

-- Each member has a bit.

pub align-small : (members : List ℕ) → AreOffsets members → align_of members < 27
align-small members all = (align-mask (mask_from (least members) members) (mask-below (least members) members all)).small

pub size-small : (members : List ℕ) → AreOffsets members → size_m1_of members < 2 ^ 27
size-small members all =
    let small = greatest-below members all in
    let less = shr_le (greatest members - least members) (align_of members) in
    omega (arith, small, less)

pub bits-each : (members : List ℕ) → AreOffsets members → All (IsBit (least members) (align_of members) (size_m1_of members)) members
bits-each members all k d within =
    let low : ℕ = least members in
    let align : ℕ = align_of members in
    let member : ℕ = get_or members k d in
    let none = (align-mask (mask_from low members) (mask-below low members all)).none_below in
    let taken = mask_takes low 0 align members k d within in
    let rest : (member - low) % 2 ^ align ≡ 0 = omega (arith, none, taken) in
    record {
      above = least-each members k d within;
      on_step = on_step_from (member - low) align rest;
      within = shr_monotone (member - low) (greatest members - low) align (below_greatest (greatest-each members k d within));
    } where
      on_step_from : (n a : ℕ) → n % 2 ^ a ≡ 0 → n / 2 ^ a * 2 ^ a ≡ n
      on_step_from n a rest = sym (plus_none (n / 2 ^ a * 2 ^ a)) ∙ ap (λ m. n / 2 ^ a * 2 ^ a + m) (sym rest) ∙ shr_split n a where
        plus_none : (m : ℕ) → m + 0 ≡ m
        plus_none m = omega arith

      below_greatest : get_or members k d ≤ greatest members → get_or members k d - least members ≤ greatest members - least members
      below_greatest h = omega (arith, h)

      shr_monotone : (m n a : ℕ) → m ≤ n → m / 2 ^ a ≤ n / 2 ^ a
      shr_monotone m n a h = le-div (m / 2 ^ a) n (2 ^ a) (pow_pos a) (le_through (shr_split m a) h) where
        le_through : m / 2 ^ a * 2 ^ a + m % 2 ^ a ≡ m → m ≤ n → m / 2 ^ a * 2 ^ a ≤ n
        le_through split h = omega (arith, split, h)
