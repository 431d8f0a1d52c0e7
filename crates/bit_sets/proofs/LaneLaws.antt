-- The bytes hold each array, and a spot stands for each.
use Rattle.std.proofs.Common.{◌≡◌, ◌≢◌, ℕ, ◌+◌, ◌-◌, ◌*◌, ◌^◌, ◌<◌, ◌≤◌, ◌⊎◌, inl, inr, zero, suc, Bool, true, false, List, [], ◌∷◌, length, get_or, set, fold, max, replicate, refl, sym, ap, subst, ◌∙◌, arith, Option, Some, None}
use Rattle.std.specs.Prelude.{All, ◌==◌, not, if◌then◌else◌}
use Rattle.std.specs.Int.{bit_at}
use Rattle.std.specs.Int.Bits.{bit_or, bit_and}
use Rattle.std.proofs.lemmas.Nat.Bits.{bit_at_or, bit_at-zero, bit_at-pow_same, bit_at-pow_other, and_pow}
use Rattle.std.proofs.lemmas.Nat.{pow_pos}
use Rattle.std.proofs.lemmas.Bool.{cases_eq, cases_lt, eq-eqb, ne_eqb}
use Rattle.std.proofs.lemmas.List.{length-set, get_or-set_same, get_or-set_other}
use Rattle.std.proofs.lemmas.List.Elements.{All-head, All-tail}
use Rattle.std.proofs.Math.ListN.{get_or-eq_default}
use Rattle.bit_sets.specs.declared.set.BitSet.{BitSet}
use Rattle.bit_sets.specs.declared.lanes.Spot.{Spot}
use Rattle.bit_sets.specs.declared.filling.Filling.{Filling}
use Rattle.bit_sets.specs.declared.filling.Stood.{Stood}
use Rattle.bit_sets.specs.BitSet.{bit_in, greatest}
use Rattle.bit_sets.specs.Tests.{Holds}
use Rattle.bit_sets.specs.Laws.{LanesHold}
use Rattle.bit_sets.specs.Lanes.{set_at, byte_of, byte_at, bytes_from, lanes_of, filled}
use Rattle.bit_sets.proofs.NumberLemmas.{greatest-each}
use Rattle.bit_sets.proofs.JoinLemmas.{byte-inside, byte-outside}
use Rattle.bit_sets.proofs.FitLemmas.{end_of, EndsIn, IsBehind, AreApart, IsFit, fit-filled}

-- A lane's bit of a byte is that of one of the arrays.

part_of : List BitSet → ℕ → Stood → ℕ
part_of sets k one = byte_of (set_at sets one.number) one.spot k

lane_bit : List BitSet → ℕ → ℕ → Stood → ℕ
lane_bit sets k lane one = bit_at (byte_of (set_at sets one.number) one.spot k) lane

-- the greatest of the arrays' bits
top_bit : List BitSet → ℕ → ℕ → List Stood → ℕ
top_bit sets k lane [] = 0
top_bit sets k lane (one ∷ more) = max (lane_bit sets k lane one) (top_bit sets k lane more)

max_turned : (a b c : ℕ) → max (max a b) c ≡ max a (max b c)
max_turned a b c = omega arith

max_none : (a : ℕ) → a ≡ max a 0
max_none a = omega arith

bit_of_fold : (sets : List BitSet) (k lane byte : ℕ) (stood : List Stood)
    → bit_at (fold (λ b one. bit_or b (byte_of (set_at sets one.number) one.spot k)) byte stood) lane ≡ max (bit_at byte lane) (top_bit sets k lane stood)
unfolding top_bit lane_bit
bit_of_fold sets k lane byte [] = max_none (bit_at byte lane)
bit_of_fold sets k lane byte (one ∷ more) =
    bit_of_fold sets k lane (bit_or byte (byte_of (set_at sets one.number) one.spot k)) more
    ∙ ap (λ n. max n (top_bit sets k lane more)) (bit_at_or byte (byte_of (set_at sets one.number) one.spot k) lane)
    ∙ max_turned (bit_at byte lane) (bit_at (byte_of (set_at sets one.number) one.spot k) lane) (top_bit sets k lane more)

-- an array of another lane, or one that doesn't reach the byte, has no such bit
away : (sets : List BitSet) (lengths : List ℕ) (k lane : ℕ) (one : Stood) → EndsIn sets lengths one
    → (one.spot.mask ≡ 2 ^ lane → (k < one.spot.start) ⊎ (end_of sets one ≤ k)) → lane_bit sets k lane one ≡ 0
unfolding lane_bit
away sets lengths k lane one (own, small, mask, ends) apart = elim (cases_eq own lane) [
  | inl same ↦ ap (λ b. bit_at b lane) (byte-outside (set_at sets one.number) one.spot k (outside (apart (mask ∙ ap (λ l. 2 ^ l) same)))) ∙ bit_at-zero lane
  | inr other ↦ elsewhere other
] where
  outside : (k < one.spot.start) ⊎ (end_of sets one ≤ k) → (k < one.spot.start) ⊎ ((set_at sets one.number).size_m1 < k - one.spot.start)
  outside (inl before) = inl before
  outside (inr behind) = inr (omega (arith, behind))

  elsewhere : own ≢ lane → bit_at (byte_of (set_at sets one.number) one.spot k) lane ≡ 0
  elsewhere other = by_cases (cases_lt k one.spot.start) (cases_lt (set_at sets one.number).size_m1 (k - one.spot.start)) where
    mask_bit : bit_at one.spot.mask lane ≡ 0
    mask_bit = ap (λ m. bit_at m lane) mask ∙ bit_at-pow_other own lane (λ same. other (sym same))

    by_bit : (t : Bool) → bit_at (if t then one.spot.mask else 0) lane ≡ 0
    by_bit true = mask_bit
    by_bit false = bit_at-zero lane

    by_cases : (k < one.spot.start) ⊎ (one.spot.start ≤ k) → ((set_at sets one.number).size_m1 < k - one.spot.start) ⊎ (k - one.spot.start ≤ (set_at sets one.number).size_m1)
        → bit_at (byte_of (set_at sets one.number) one.spot k) lane ≡ 0
    by_cases (inl before) within = ap (λ b. bit_at b lane) (byte-outside (set_at sets one.number) one.spot k (inl before)) ∙ bit_at-zero lane
    by_cases (inr from) (inl past) = ap (λ b. bit_at b lane) (byte-outside (set_at sets one.number) one.spot k (inr past)) ∙ bit_at-zero lane
    by_cases (inr from) (inr within) = ap (λ b. bit_at b lane) (byte-inside (set_at sets one.number) one.spot k from within)
        ∙ by_bit (bit_in (set_at sets one.number).words (k - one.spot.start))

-- Of the arrays the one at place j reaches byte k.

Reaches : List BitSet → ℕ → Stood → Type 0
Reaches sets k one = (one.spot.start ≤ k) × (k < end_of sets one)

none_behind : (sets : List BitSet) (lengths : List ℕ) (k lane : ℕ) (one : Stood) (more : List Stood) → one.spot.mask ≡ 2 ^ lane → Reaches sets k one
    → All (EndsIn sets lengths) more → All (IsBehind sets one) more → top_bit sets k lane more ≡ 0
unfolding top_bit Reaches
none_behind sets lengths k lane one [] mask reaches ends behind = refl
none_behind sets lengths k lane one (other ∷ more) mask reaches ends behind =
    let next : IsBehind sets one other = All-head (IsBehind sets one) other more behind in
    ap (λ n. max n (top_bit sets k lane more))
    (away sets lengths k lane other (All-head (EndsIn sets lengths) other more ends)
    (λ same. inl (before (next (mask ∙ sym same)) reaches.1)))
    ∙ ap (max 0) (none_behind sets lengths k lane one more mask reaches (All-tail (EndsIn sets lengths) other more ends) (All-tail (IsBehind sets one) other more behind)) where
      before : end_of sets one ≤ other.spot.start → k < end_of sets one → k < other.spot.start
      before ends inside = omega (arith, ends, inside)

only_one : (sets : List BitSet) (lengths : List ℕ) (k lane : ℕ) (stood : List Stood) (j : ℕ) (d : Stood) → j < length stood
    → All (EndsIn sets lengths) stood → AreApart sets stood → (get_or stood j d).spot.mask ≡ 2 ^ lane → Reaches sets k (get_or stood j d)
    → top_bit sets k lane stood ≡ lane_bit sets k lane (get_or stood j d)
unfolding top_bit AreApart Reaches
only_one sets lengths k lane [] j d within ends apart mask reaches = absurd (omega arith)
only_one sets lengths k lane (one ∷ more) zero d within ends apart mask reaches =
    ap (max (lane_bit sets k lane one)) (none_behind sets lengths k lane one more mask reaches (All-tail (EndsIn sets lengths) one more ends) apart.0)
    ∙ sym (max_none (lane_bit sets k lane one))
only_one sets lengths k lane (one ∷ more) (suc j) d within ends apart mask reaches =
    let behind : IsBehind sets one (get_or more j d) = apart.0 j d (omega arith) in
    ap (λ n. max n (top_bit sets k lane more))
    (away sets lengths k lane one (All-head (EndsIn sets lengths) one more ends) (λ same. inr (past (behind (same ∙ sym mask)) reaches.0)))
    ∙ none_first (top_bit sets k lane more)
    ∙ only_one sets lengths k lane more j d (omega arith) (All-tail (EndsIn sets lengths) one more ends) apart.1 mask reaches where
      none_first : (n : ℕ) → max 0 n ≡ n
      none_first n = omega arith

      past : end_of sets one ≤ (get_or more j d).spot.start → (get_or more j d).spot.start ≤ k → end_of sets one ≤ k
      past ends from = omega (arith, ends, from)

get_or-bytes : (byte : ℕ → ℕ) (k n i : ℕ) → i < n → get_or (bytes_from byte k n) i 0 ≡ byte (k + i)
get_or-bytes byte k zero i within = absurd (omega arith)
get_or-bytes byte k (suc n) zero within = ap byte here where
  here : k ≡ k + 0
  here = omega arith
get_or-bytes byte k (suc n) (suc i) within = get_or-bytes byte (k + 1) n i (omega arith) ∙ ap byte there where
  there : k + 1 + i ≡ k + suc i
  there = omega arith

-- the test of a lane's bit
masked : (byte lane : ℕ) (bit : Bool) → bit_at byte lane ≡ (if bit then 1 else 0) → not (bit_and byte (2 ^ lane) == 0) ≡ bit
masked byte lane bit is = ap (λ n. not (n == 0)) (and_pow byte lane ∙ ap (λ n. n * 2 ^ lane) is) ∙ by_bit bit where
  by_bit : (t : Bool) → not ((if t then 1 else 0) * 2 ^ lane == 0) ≡ t
  by_bit true = ap not (ne_eqb (1 * 2 ^ lane) 0 some) where
    some : 1 * 2 ^ lane ≡ 0 → ⊥
    some none = let h = pow_pos lane in omega (arith, h, none)
  by_bit false = ap not (eq-eqb (0 * 2 ^ lane) 0 none) where
    none : 0 * 2 ^ lane ≡ 0
    none = omega arith

own_bit : (one : BitSet) (spot : Spot) (i lane : ℕ) → i ≤ one.size_m1 → spot.mask ≡ 2 ^ lane
    → bit_at (byte_of one spot (spot.start + i)) lane ≡ (if bit_in one.words i then 1 else 0)
own_bit one spot i lane inside mask =
    ap (λ b. bit_at b lane) (byte-inside one spot (spot.start + i) (omega arith) (omega (arith, inside)))
    ∙ ap (λ n. bit_at (if bit_in one.words n then spot.mask else 0) lane) back ∙ by_bit (bit_in one.words i) where
      back : spot.start + i - spot.start ≡ i
      back = omega arith

      by_bit : (t : Bool) → bit_at (if t then spot.mask else 0) lane ≡ (if t then 1 else 0)
      by_bit true = ap (λ m. bit_at m lane) mask ∙ bit_at-pow_same lane
      by_bit false = bit_at-zero lane

-- what an array has in its bytes
stood-holds : (sets : List BitSet) (filling : Filling) (j : ℕ) (d : Stood) → IsFit sets filling → j < length filling.stood
    → let one = get_or filling.stood j d in
    Holds (bytes_from (byte_at sets filling.stood) 0 (greatest filling.lengths)) one.spot.start one.spot.mask (set_at sets one.number)
unfolding Reaches top_bit lane_bit
stood-holds sets filling j d fit within i inside =
    let one : Stood = get_or filling.stood j d in
    let (lane, small, mask, ends) = fit.ends j d within in
    let k : ℕ = one.spot.start + i in
    let lanes = fit.lanes in
    let reached : get_or filling.lengths lane 0 ≤ greatest filling.lengths = greatest-each filling.lengths lane 0 (omega (arith, small, lanes)) in
    let short : k < greatest filling.lengths = omega (arith, inside, ends, reached) in
    let byte : get_or (bytes_from (byte_at sets filling.stood) 0 (greatest filling.lengths)) k 0 ≡ byte_at sets filling.stood k =
    get_or-bytes (byte_at sets filling.stood) 0 (greatest filling.lengths) k short ∙ ap (byte_at sets filling.stood) (none_before k) in
    let bit : bit_at (byte_at sets filling.stood k) lane ≡ (if bit_in (set_at sets one.number).words i then 1 else 0) =
    bit_of_fold sets k lane 0 filling.stood ∙ ap (λ n. max n (top_bit sets k lane filling.stood)) (bit_at-zero lane)
    ∙ none_first (top_bit sets k lane filling.stood)
    ∙ only_one sets filling.lengths k lane filling.stood j d within fit.ends fit.apart mask (omega arith, omega (arith, inside))
    ∙ own_bit (set_at sets one.number) one.spot i lane inside mask in
    ap (λ m. not (bit_and (get_or (bytes_from (byte_at sets filling.stood) 0 (greatest filling.lengths)) k 0) m == 0)) mask
    ∙ ap (λ b. not (bit_and b (2 ^ lane) == 0)) byte
    ∙ masked (byte_at sets filling.stood k) lane (bit_in (set_at sets one.number).words i) bit where
      none_before : (n : ℕ) → 0 + n ≡ n
      none_before n = omega arith

      none_first : (n : ℕ) → max 0 n ≡ n
      none_first n = omega arith

-- a spot comes from an array that was placed
pub spot-from : (stood : List Stood) (spots : List (Option Spot)) (number : ℕ) (spot : Spot)
    → get_or (fold (λ ss one. set ss one.number (Some one.spot)) spots stood) number None ≡ Some spot
    → (get_or spots number None ≡ Some spot) ⊎ ((j : ℕ) × (j < length stood) × ((d : Stood) → ((get_or stood j d).number ≡ number) × ((get_or stood j d).spot ≡ spot)))
spot-from [] spots number spot is = inl is
spot-from (one ∷ more) spots number spot is =
    elim (spot-from more (set spots one.number (Some one.spot)) number spot is) [
      | inl before ↦ at_set before (cases_eq number one.number) (cases_lt number (length spots))
      | inr (j, within, at) ↦ inr (suc j, omega arith, λ d. at d)
    ] where
      at_set : get_or (set spots one.number (Some one.spot)) number None ≡ Some spot → (number ≡ one.number) ⊎ (number ≢ one.number) → (number < length spots) ⊎ (length spots ≤ number)
          → (get_or spots number None ≡ Some spot)
          ⊎ ((j : ℕ) × (j < suc (length more)) × ((d : Stood) → ((get_or (one ∷ more) j d).number ≡ number) × ((get_or (one ∷ more) j d).spot ≡ spot)))
      at_set before (inr other) long = inl (sym (get_or-set_other spots one.number number (Some one.spot) None other) ∙ before)
      at_set before (inl same) (inl inside) =
          let here : get_or (set spots one.number (Some one.spot)) number None ≡ Some one.spot =
          ap (λ n. get_or (set spots one.number (Some one.spot)) n None) same
          ∙ get_or-set_same spots one.number (Some one.spot) None (subst (λ n. n < length spots) same inside) in
          let is_spot : one.spot ≡ spot = (let h = sym here ∙ before in cc) in
          inr (0, omega arith, λ d. (sym same, is_spot))
      at_set before (inl same) (inr past) =
          let none : get_or (set spots one.number (Some one.spot)) number None ≡ None =
          get_or-eq_default (set spots one.number (Some one.spot)) None (subst (λ n. n ≤ number) (sym (length-set spots one.number (Some one.spot))) past) in
          let h = sym none ∙ before in cc

pub not-none : (count number : ℕ) (spot : Spot) → get_or (replicate count None) number None ≡ Some spot → ⊥
not-none zero number spot is = cc
not-none (suc count) zero spot is = cc
not-none (suc count) (suc number) spot is = not-none count number spot is

pub lanes-hold : LanesHold
lanes-hold sets number spot is =
    let none : Stood = record { number = 0; spot = record { start = 0; mask = 0 } } in
    elim (spot-from (filled sets).stood (replicate (length sets) None) number spot is) [
      | inl before ↦ absurd (not-none (length sets) number spot before)
      | inr (j, within, at) ↦
          let held = stood-holds sets (filled sets) j none (fit-filled sets) within in
          let facts = at none in
          subst (λ (s : Spot). Holds (lanes_of sets).bytes s.start s.mask (set_at sets number)) facts.1
          (subst (λ n. Holds (lanes_of sets).bytes (get_or (filled sets).stood j none).spot.start (get_or (filled sets).stood j none).spot.mask (set_at sets n)) facts.0 held)
    ]
