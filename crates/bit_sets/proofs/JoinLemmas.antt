-- Bytes into which arrays are put.
use Rattle.std.proofs.Common.{◌≡◌, ◌≢◌, ℕ, ◌+◌, ◌-◌, ◌<◌, ◌≤◌, ◌⊎◌, inl, inr, zero, suc, Bool, true, false, ◌&&◌, List, [], ◌∷◌, length, get_or, set, take, drop, ◌++◌, replicate, refl, sym, ap, ◌∙◌, arith, add-zero}
use Rattle.std.specs.Prelude.{if◌then◌else◌, nat_le}
use Rattle.std.specs.Int.Bits.{bit_or, or_zero_r}
use Rattle.std.proofs.lemmas.Bool.{cases_lt, cases_eq, lt-ltb, le-ltb, le-leb, lt-leb}
use Rattle.std.proofs.lemmas.List.Sums.{fold_more}
use Rattle.std.proofs.lemmas.List.{append-nil, take_all, get_or_default}
use Rattle.std.proofs.Math.ListN.{drop_of_length-le}
use Rattle.bit_sets.specs.declared.set.BitSet.{BitSet}
use Rattle.bit_sets.specs.declared.lanes.Spot.{Spot}
use Rattle.bit_sets.specs.declared.filling.Stood.{Stood}
use Rattle.bit_sets.specs.BitSet.{bit_in, no_set}
use Rattle.bit_sets.specs.Lanes.{byte_of, byte_at, bytes_from, set_at}
use Rattle.bit_sets.specs.Computing.{joined, part_before}

joined-same : (f g : ℕ → ℕ) (k : ℕ) (bytes : List ℕ) → ((j : ℕ) → k ≤ j → j < k + length bytes → f j ≡ g j) → joined f k bytes ≡ joined g k bytes
joined-same f g k [] same = refl
joined-same f g k (byte ∷ bytes) same =
    ap (λ n. bit_or byte n ∷ joined f (k + 1) bytes) (same k (omega arith) (omega arith))
    ∙ ap (λ rest. bit_or byte (g k) ∷ rest) (joined-same f g (k + 1) bytes (λ j from below. same j (omega arith) (omega arith)))

joined-none : (f : ℕ → ℕ) (k : ℕ) (bytes : List ℕ) → ((j : ℕ) → f j ≡ 0) → joined f k bytes ≡ bytes
joined-none f k [] none = refl
joined-none f k (byte ∷ bytes) none =
    ap (λ n. bit_or byte n ∷ joined f (k + 1) bytes) (none k) ∙ ap (λ b. b ∷ joined f (k + 1) bytes) (or_zero_r byte)
    ∙ ap (λ rest. byte ∷ rest) (joined-none f (k + 1) bytes none)

joined-one : (f g : ℕ → ℕ) (k i : ℕ) (bytes : List ℕ) → i < length bytes → f (k + i) ≡ 0 → ((j : ℕ) → j ≢ k + i → f j ≡ g j)
    → joined g k bytes ≡ set (joined f k bytes) i (bit_or (get_or (joined f k bytes) i 0) (g (k + i)))
joined-one f g k i [] within none same = absurd (omega arith)
joined-one f g k zero (byte ∷ bytes) within none same =
    ap (λ n. bit_or byte (g n) ∷ joined g (k + 1) bytes) (sym (add-zero k))
    ∙ ap (λ b. bit_or b (g (k + 0)) ∷ joined g (k + 1) bytes) (sym (ap (bit_or byte) (ap f (sym (add-zero k)) ∙ none) ∙ or_zero_r byte))
    ∙ ap (λ rest. bit_or (bit_or byte (f k)) (g (k + 0)) ∷ rest) (sym (joined-same f g (k + 1) bytes (λ j from below. same j (omega arith))))
joined-one f g k (suc i) (byte ∷ bytes) within none same =
    let there : k + 1 + i ≡ k + suc i = omega arith in
    ap (λ n. bit_or byte n ∷ joined g (k + 1) bytes) (sym (same k (omega arith)))
    ∙ ap (λ rest. bit_or byte (f k) ∷ rest)
    (joined-one f g (k + 1) i bytes (omega arith) (ap f there ∙ none) (λ j other. same j (λ is. other (is ∙ sym there)))
    ∙ ap (λ n. set (joined f (k + 1) bytes) i (bit_or (get_or (joined f (k + 1) bytes) i 0) (g n))) there)

-- What an array puts into a byte.

before_start : (one : BitSet) (spot : Spot) (k : ℕ) → k < spot.start → byte_of one spot k ≡ 0
before_start one spot k before =
    ap (λ (t : Bool). if t && (nat_le (k - spot.start) one.size_m1 && bit_in one.words (k - spot.start)) then spot.mask else 0) (lt-leb spot.start k before)

past_end : (one : BitSet) (spot : Spot) (k : ℕ) → one.size_m1 < k - spot.start → byte_of one spot k ≡ 0
past_end one spot k past =
    ap (λ (t : Bool). if nat_le spot.start k && (t && bit_in one.words (k - spot.start)) then spot.mask else 0) (lt-leb (k - spot.start) one.size_m1 past)
    ∙ nothing (nat_le spot.start k) where
      nothing : (t : Bool) → (if t && false then spot.mask else 0) ≡ 0
      nothing true = refl
      nothing false = refl

pub byte-inside : (one : BitSet) (spot : Spot) (k : ℕ) → spot.start ≤ k → k - spot.start ≤ one.size_m1
    → byte_of one spot k ≡ (if bit_in one.words (k - spot.start) then spot.mask else 0)
byte-inside one spot k from within =
    ap (λ (t : Bool). if t && (nat_le (k - spot.start) one.size_m1 && bit_in one.words (k - spot.start)) then spot.mask else 0) (le-leb spot.start k from)
    ∙ ap (λ (t : Bool). if t && bit_in one.words (k - spot.start) then spot.mask else 0) (le-leb (k - spot.start) one.size_m1 within)

pub byte-outside : (one : BitSet) (spot : Spot) (k : ℕ) → (k < spot.start) ⊎ (one.size_m1 < k - spot.start) → byte_of one spot k ≡ 0
byte-outside one spot k (inl before) = before_start one spot k before
byte-outside one spot k (inr past) = past_end one spot k past

-- The loop over an array's bytes.

part_at : (part : ℕ → ℕ) (n k : ℕ) → k < n → part_before part n k ≡ part k
part_at part n k below = ap (λ (t : Bool). if t then part k else 0) (lt-ltb k n below)

part_past : (part : ℕ → ℕ) (n k : ℕ) → n ≤ k → part_before part n k ≡ 0
part_past part n k past = ap (λ (t : Bool). if t then part k else 0) (le-ltb k n past)

pub write-begins : (one : BitSet) (spot : Spot) (bytes : List ℕ) → bytes ≡ joined (part_before (byte_of one spot) spot.start) 0 bytes
write-begins one spot bytes = sym (joined-none (part_before (byte_of one spot) spot.start) 0 bytes none) where
  none : (j : ℕ) → part_before (byte_of one spot) spot.start j ≡ 0
  none j = elim (cases_lt j spot.start) [
    | inl below ↦ part_at (byte_of one spot) spot.start j below ∙ before_start one spot j below
    | inr past ↦ part_past (byte_of one spot) spot.start j past
  ]

-- the end of the bytes, or of the array's bits
pub write-ends : (one : BitSet) (spot : Spot) (at : ℕ) (bytes : List ℕ) → (length bytes ≤ at) ⊎ (one.size_m1 < at - spot.start)
    → joined (part_before (byte_of one spot) at) 0 bytes ≡ joined (byte_of one spot) 0 bytes
write-ends one spot at bytes ended = joined-same (part_before (byte_of one spot) at) (byte_of one spot) 0 bytes (λ j from below. each j below) where
  each : (j : ℕ) → j < 0 + length bytes → part_before (byte_of one spot) at j ≡ byte_of one spot j
  each j below = elim (cases_lt j at) [
    | inl before ↦ part_at (byte_of one spot) at j before
    | inr past ↦ part_past (byte_of one spot) at j past ∙ sym (elim ended [
      | inl short ↦ absurd (omega arith)
      | inr over ↦ past_end one spot j (omega arith)
    ])
  ]

before_next : (part : ℕ → ℕ) (at j : ℕ) → j ≢ at → part_before part at j ≡ part_before part (at + 1) j
before_next part at j other = elim (cases_lt j at) [
  | inl below ↦ part_at part at j below ∙ sym (part_at part (at + 1) j (omega arith))
  | inr past ↦ part_past part at j past ∙ sym (part_past part (at + 1) j (omega arith))
]

next_here : (part : ℕ → ℕ) (at : ℕ) → part_before part (at + 1) at ≡ part at
next_here part at = part_at part (at + 1) at (omega arith)

pub write-set : (one : BitSet) (spot : Spot) (at : ℕ) (bytes old : List ℕ) → at < length old → spot.start ≤ at → at - spot.start ≤ one.size_m1
    → bit_in one.words (at - spot.start) ≡ true → bytes ≡ joined (part_before (byte_of one spot) at) 0 old
    → set bytes at (bit_or (get_or bytes at 0) spot.mask) ≡ joined (part_before (byte_of one spot) (at + 1)) 0 old
write-set one spot at bytes old within from inside is_one so_far =
    let part : ℕ → ℕ = byte_of one spot in
    let here : spot.mask ≡ part_before part (at + 1) at =
    sym (next_here part at ∙ byte-inside one spot at from inside ∙ ap (λ (t : Bool). if t then spot.mask else 0) is_one) in
    ap (λ bs. set bs at (bit_or (get_or bs at 0) spot.mask)) so_far
    ∙ ap (λ m. set (joined (part_before part at) 0 old) at (bit_or (get_or (joined (part_before part at) 0 old) at 0) m)) here
    ∙ sym (joined-one_at (part_before part at) (part_before part (at + 1)) at old within (part_past part at at (omega arith)) (before_next part at)) where
      joined-one_at : (f g : ℕ → ℕ) (i : ℕ) (bs : List ℕ) → i < length bs → f i ≡ 0 → ((j : ℕ) → j ≢ i → f j ≡ g j)
          → joined g 0 bs ≡ set (joined f 0 bs) i (bit_or (get_or (joined f 0 bs) i 0) (g i))
      joined-one_at f g i bs within none same =
          let here : 0 + i ≡ i = omega arith in
          joined-one f g 0 i bs within (ap f here ∙ none) (λ j other. same j (λ is. other (is ∙ sym here)))
          ∙ ap (λ n. set (joined f 0 bs) i (bit_or (get_or (joined f 0 bs) i 0) (g n))) here

pub write-clear : (one : BitSet) (spot : Spot) (at : ℕ) (old : List ℕ) → spot.start ≤ at → at - spot.start ≤ one.size_m1
    → bit_in one.words (at - spot.start) ≡ false
    → joined (part_before (byte_of one spot) at) 0 old ≡ joined (part_before (byte_of one spot) (at + 1)) 0 old
write-clear one spot at old from inside is_none =
    joined-same (part_before (byte_of one spot) at) (part_before (byte_of one spot) (at + 1)) 0 old (λ j first below. each j) where
      each : (j : ℕ) → part_before (byte_of one spot) at j ≡ part_before (byte_of one spot) (at + 1) j
      each j = elim (cases_eq j at) [
        | inl same ↦ part_past (byte_of one spot) at j (omega arith)
            ∙ sym (ap (part_before (byte_of one spot) (at + 1)) same ∙ next_here (byte_of one spot) at ∙ byte-inside one spot at from inside
            ∙ ap (λ (t : Bool). if t then spot.mask else 0) is_none)
        | inr other ↦ before_next (byte_of one spot) at j other
      ]

-- All arrays.

joined-over : (part byte : ℕ → ℕ) (k n : ℕ) → joined part k (bytes_from byte k n) ≡ bytes_from (λ j. bit_or (byte j) (part j)) k n
joined-over part byte k zero = refl
joined-over part byte k (suc n) = ap (λ rest. bit_or (byte k) (part k) ∷ rest) (joined-over part byte (k + 1) n)

bytes-same : (f g : ℕ → ℕ) (k n : ℕ) → ((j : ℕ) → f j ≡ g j) → bytes_from f k n ≡ bytes_from g k n
bytes-same f g k zero same = refl
bytes-same f g k (suc n) same = ap (λ b. b ∷ bytes_from f (k + 1) n) (same k) ∙ ap (λ rest. g k ∷ rest) (bytes-same f g (k + 1) n same)

pub bytes-none : (k n : ℕ) → bytes_from (λ j. 0) k n ≡ replicate n 0
bytes-none k zero = refl
bytes-none k (suc n) = ap (λ rest. 0 ∷ rest) (bytes-none (k + 1) n)

pub bytes-more : (sets : List BitSet) (stood : List Stood) (at count : ℕ) (one : Stood) (bytes : List ℕ) → at < length stood → one ≡ get_or stood at one
    → bytes ≡ bytes_from (byte_at sets (take at stood)) 0 count
    → joined (byte_of (set_at sets one.number) one.spot) 0 bytes ≡ bytes_from (byte_at sets (take (at + 1) stood)) 0 count
bytes-more sets stood at count one bytes within is so_far =
    ap (joined (byte_of (set_at sets one.number) one.spot) 0) so_far
    ∙ joined-over (byte_of (set_at sets one.number) one.spot) (byte_at sets (take at stood)) 0 count
    ∙ bytes-same (λ j. bit_or (byte_at sets (take at stood) j) (byte_of (set_at sets one.number) one.spot j)) (byte_at sets (take (at + 1) stood)) 0 count each where
      each : (j : ℕ) → bit_or (byte_at sets (take at stood) j) (byte_of (set_at sets one.number) one.spot j) ≡ byte_at sets (take (at + 1) stood) j
      each j =
          ap (λ (s : Stood). bit_or (byte_at sets (take at stood) j) (byte_of (set_at sets s.number) s.spot j)) is
          ∙ sym (fold_more (λ byte s. bit_or byte (byte_of (set_at sets s.number) s.spot j)) 0 stood at one within)

pub bytes-step : (sets : List BitSet) (stood : List Stood) (at count : ℕ) (d : Stood) (set : BitSet) (bytes new : List ℕ) → at < length stood
    → (get_or stood at d).number < length sets → set ≡ get_or sets (get_or stood at d).number set
    → bytes ≡ bytes_from (byte_at sets (take at stood)) 0 count → new ≡ joined (byte_of set (get_or stood at d).spot) 0 bytes
    → new ≡ bytes_from (byte_at sets (take (at + 1) stood)) 0 count
bytes-step sets stood at count d one bytes new within inside is so_far made =
    let s : Stood = get_or stood at d in
    made ∙ ap (λ b. joined (byte_of b s.spot) 0 bytes) (is ∙ get_or_default sets s.number one no_set inside)
    ∙ bytes-more sets stood at count s bytes within (get_or_default stood at d s within) so_far

-- a vector of which all items were lent, and changed
pub all-lent : {X : Type 0} (len : ℕ) (new old : List X) → len ≡ length old → length new ≡ length old → take len (new ++ drop (length new) old) ≡ new
all-lent len new old long same =
    ap (λ rest. take len (new ++ rest)) (drop_of_length-le old (omega (arith, same))) ∙ ap (take len) (append-nil new)
    ∙ take_all len new (omega (arith, long, same))
