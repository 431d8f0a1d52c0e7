-- The bits of words, and words with one bit more.
use Rattle.std.proofs.Common.{◌≡◌, ◌≢◌, ℕ, ◌+◌, ◌*◌, ◌/◌, ◌%◌, ◌^◌, ◌<◌, ◌≤◌, inl, inr, zero, suc, Bool, true, false, ◌&&◌, ◌||◌, ◌∷◌, length, get_or, set, replicate, refl, sym, ap, ◌∙◌, arith, max, add-one}
use Rattle.std.proofs.Math.Nat.{pow-suc}
use Rattle.std.specs.Prelude.{if◌then◌else◌, ◌==◌}
use Rattle.std.specs.Int.{bit_at}
use Rattle.std.specs.Int.Bits.{bit_or}
use Rattle.std.proofs.lemmas.Nat.{or_lt, pow_below}
use Rattle.std.proofs.lemmas.Nat.Bits.{bit_at_lowest, bit_at-suc, bit_at_or, bit_at-pow_same, bit_at-pow_other, same_from_bits_below}
use Rattle.std.proofs.lemmas.Bool.{cases_eq, cases_lt, eq-eqb, ne_eqb, and_from, and_left, and_right, and_parts}
use Rattle.bit_sets.specs.BitSet.{holds_below, word_from, words_from}

-- Tests below a number.

pub holds-more : (test : ℕ → Bool) (n : ℕ) → holds_below test n ≡ true → test n ≡ true → holds_below test (n + 1) ≡ true
unfolding holds_below
holds-more test n before here = ap (holds_below test) (add-one n) ∙ and_from (holds_below test n) (test n) before here

pub holds-fails : (test : ℕ → Bool) (n k : ℕ) → k < n → test k ≡ false → holds_below test n ≡ false
unfolding holds_below
holds-fails test zero k below fails = absurd (omega arith)
holds-fails test (suc n) k below fails =
    elim (cases_lt k n) [
      | inl before ↦ and_left (holds_below test n) (test n) (holds-fails test n k before fails)
      | inr behind ↦ and_right (holds_below test n) (test n) (ap test (last behind) ∙ fails)
    ] where
      last : n ≤ k → n ≡ k
      last behind = omega arith

pub holds-at : (test : ℕ → Bool) (n k : ℕ) → holds_below test n ≡ true → k < n → test k ≡ true
unfolding holds_below
holds-at test zero k holds below = absurd (omega arith)
holds-at test (suc n) k holds below =
    let parts = and_parts (holds_below test n) (test n) holds in
    elim (cases_lt k n) [
      | inl before ↦ holds-at test n k parts.0 before
      | inr behind ↦ ap test (last behind) ∙ parts.1
    ] where
      last : n ≤ k → k ≡ n
      last behind = omega arith

pub holds-same : (one other : ℕ → Bool) (n : ℕ) → ((k : ℕ) → k < n → one k ≡ other k) → holds_below one n ≡ holds_below other n
unfolding holds_below
holds-same one other zero same = refl
holds-same one other (suc n) same =
    ap (λ b. b && one n) (holds-same one other n (λ k below. same k (omega arith))) ∙ ap (λ b. holds_below other n && b) (same n (omega arith))

-- Words.

flag_at_most : (bit : Bool) → (if bit then 1 else 0) ≤ 1
flag_at_most true = omega arith
flag_at_most false = omega arith

pub word-below : (bit : ℕ → Bool) (first n : ℕ) → word_from bit first n < 2 ^ n
unfolding word_from
word-below bit first zero = omega arith
word-below bit first (suc n) =
    let flag = flag_at_most (bit first) in
    let rest = word-below bit (first + 1) n in
    let twice = pow-suc 2 n in
    omega (arith, flag, rest, twice)

pub word-bit : (bit : ℕ → Bool) (first n k : ℕ) → k < n → bit_at (word_from bit first n) k ≡ (if bit (first + k) then 1 else 0)
unfolding word_from
word-bit bit first zero k within = absurd (omega arith)
word-bit bit first (suc n) zero within =
    bit_at_lowest (word_from bit first (suc n)) ∙ odd (if bit first then 1 else 0) (word_from bit (first + 1) n) (flag_at_most (bit first))
    ∙ ap (λ i. if bit i then 1 else 0) here where
      odd : (f w : ℕ) → f ≤ 1 → (f + 2 * w) % 2 ≡ f
      odd f w most = omega arith

      here : first ≡ first + 0
      here = omega arith
word-bit bit first (suc n) (suc k) within =
    bit_at-suc (word_from bit first (suc n)) k
    ∙ ap (λ w. bit_at w k) (half (if bit first then 1 else 0) (word_from bit (first + 1) n) (flag_at_most (bit first)))
    ∙ word-bit bit (first + 1) n k (omega arith) ∙ ap (λ i. if bit i then 1 else 0) there where
      half : (f w : ℕ) → f ≤ 1 → (f + 2 * w) / 2 ≡ w
      half f w most = omega arith

      there : first + 1 + k ≡ first + suc k
      there = omega arith

pub word-same : (one other : ℕ → Bool) (first n : ℕ) → ((k : ℕ) → first ≤ k → k < first + n → one k ≡ other k) → word_from one first n ≡ word_from other first n
unfolding word_from
word-same one other first zero same = refl
word-same one other first (suc n) same =
    ap (λ b. (if b then 1 else 0) + 2 * word_from one (first + 1) n) (same first (omega arith) (omega arith))
    ∙ ap (λ w. (if other first then 1 else 0) + 2 * w) (word-same one other (first + 1) n (λ k from below. same k (omega arith) (omega arith)))

pub words-same : (one other : ℕ → Bool) (first n : ℕ) → ((k : ℕ) → first ≤ k → one k ≡ other k) → words_from one first n ≡ words_from other first n
unfolding words_from
words-same one other first zero same = refl
words-same one other first (suc n) same =
    ap (λ w. w ∷ words_from one (first + 64) n) (word-same one other first 64 (λ k from below. same k from))
    ∙ ap (λ ws. word_from other first 64 ∷ ws) (words-same one other (first + 64) n (λ k from. same k (omega arith)))

pub length-words : (bit : ℕ → Bool) (first n : ℕ) → length (words_from bit first n) ≡ n
unfolding words_from
length-words bit first zero = refl
length-words bit first (suc n) = ap suc (length-words bit (first + 64) n)

pub get_or-words : (bit : ℕ → Bool) (first n k d : ℕ) → k < n → get_or (words_from bit first n) k d ≡ word_from bit (first + k * 64) 64
unfolding words_from
get_or-words bit first zero k d within = absurd (omega arith)
get_or-words bit first (suc n) zero d within = ap (λ i. word_from bit i 64) here where
  here : first ≡ first + 0 * 64
  here = omega arith
get_or-words bit first (suc n) (suc k) d within = get_or-words bit (first + 64) n k d (omega arith) ∙ ap (λ i. word_from bit i 64) there where
  there : first + 64 + k * 64 ≡ first + suc k * 64
  there = omega arith

word-none : (bit : ℕ → Bool) (first n : ℕ) → ((k : ℕ) → bit k ≡ false) → word_from bit first n ≡ 0
unfolding word_from
word-none bit first zero none = refl
word-none bit first (suc n) none =
    ap (λ b. (if b then 1 else 0) + 2 * word_from bit (first + 1) n) (none first) ∙ ap (λ w. 0 + 2 * w) (word-none bit (first + 1) n none)

pub words-none : (bit : ℕ → Bool) (first n : ℕ) → ((k : ℕ) → bit k ≡ false) → words_from bit first n ≡ replicate n 0
unfolding words_from
words-none bit first zero none = refl
words-none bit first (suc n) none =
    ap (λ w. w ∷ words_from bit (first + 64) n) (word-none bit first 64 none) ∙ ap (λ ws. 0 ∷ ws) (words-none bit (first + 64) n none)

-- One bit more.

pub word-marked : (before after : ℕ → Bool) (first r : ℕ) → ((i : ℕ) → after i ≡ (before i || (i == first + r))) → r < 64
    → word_from after first 64 ≡ bit_or (word_from before first 64) (2 ^ r)
word-marked before after first r marked within =
    same_from_bits_below 64 (word_from after first 64) (bit_or (word_from before first 64) (2 ^ r)) (word-below after first 64)
    (or_lt 64 (word_from before first 64) (2 ^ r) (word-below before first 64) (pow_below r 64 within))
    (λ i below.
    word-bit after first 64 i below ∙ ap (λ b. if b then 1 else 0) (marked (first + i))
    ∙ elim (cases_eq i r) [ inl same ↦ at_mark i same | inr other ↦ elsewhere i other ]
    ∙ ap (λ n. max n (bit_at (2 ^ r) i)) (sym (word-bit before first 64 i below))
    ∙ sym (bit_at_or (word_from before first 64) (2 ^ r) i)) where
      or_flag : (b : Bool) → (if (b || true) then 1 else 0) ≡ max (if b then 1 else 0) 1
      or_flag true = refl
      or_flag false = refl

      or_none : (b : Bool) → (if (b || false) then 1 else 0) ≡ max (if b then 1 else 0) 0
      or_none true = refl
      or_none false = refl

      at_mark : (i : ℕ) → i ≡ r → (if (before (first + i) || (first + i == first + r)) then 1 else 0) ≡ max (if before (first + i) then 1 else 0) (bit_at (2 ^ r) i)
      at_mark i same =
          ap (λ b. if (before (first + i) || b) then 1 else 0) (eq-eqb (first + i) (first + r) (omega arith))
          ∙ or_flag (before (first + i))
          ∙ ap (max (if before (first + i) then 1 else 0)) (sym (ap (bit_at (2 ^ r)) same ∙ bit_at-pow_same r))

      elsewhere : (i : ℕ) → i ≢ r → (if (before (first + i) || (first + i == first + r)) then 1 else 0) ≡ max (if before (first + i) then 1 else 0) (bit_at (2 ^ r) i)
      elsewhere i other =
          ap (λ b. if (before (first + i) || b) then 1 else 0) (ne_eqb (first + i) (first + r) (λ same. other (omega arith)))
          ∙ or_none (before (first + i))
          ∙ ap (max (if before (first + i) then 1 else 0)) (sym (bit_at-pow_other r i other))

or_false : (b : Bool) → (b || false) ≡ b
or_false true = refl
or_false false = refl

-- away from the mark
unmarked : (before after : ℕ → Bool) (p i : ℕ) → ((j : ℕ) → after j ≡ (before j || (j == p))) → i ≢ p → after i ≡ before i
unmarked before after p i marked other = marked i ∙ ap (λ b. before i || b) (ne_eqb i p other) ∙ or_false (before i)

pub words-marked : (before after : ℕ → Bool) (first n k r : ℕ) → ((i : ℕ) → after i ≡ (before i || (i == first + (k * 64 + r)))) → k < n → r < 64
    → words_from after first n ≡ set (words_from before first n) k (bit_or (word_from before (first + k * 64) 64) (2 ^ r))
unfolding words_from
words-marked before after first zero k r marked within small = absurd (omega arith)
words-marked before after first (suc n) zero r marked within small =
    ap (λ w. w ∷ words_from after (first + 64) n)
    (word-marked before after first r (λ i. marked i ∙ ap (λ p. before i || (i == p)) here) small
    ∙ ap (λ i. bit_or (word_from before i 64) (2 ^ r)) here')
    ∙ ap (λ ws. bit_or (word_from before (first + 0 * 64) 64) (2 ^ r) ∷ ws)
    (words-same after before (first + 64) n (λ i from. unmarked before after (first + (0 * 64 + r)) i marked (omega arith))) where
      here : first + (0 * 64 + r) ≡ first + r
      here = omega arith

      here' : first ≡ first + 0 * 64
      here' = omega arith
words-marked before after first (suc n) (suc k) r marked within small =
    ap (λ w. w ∷ words_from after (first + 64) n)
    (word-same after before first 64 (λ i from below. unmarked before after (first + (suc k * 64 + r)) i marked (omega arith)))
    ∙ ap (λ ws. word_from before first 64 ∷ ws)
    (words-marked before after (first + 64) n k r (λ i. marked i ∙ ap (λ p. before i || (i == p)) there) (omega arith) small
    ∙ ap (λ i. set (words_from before (first + 64) n) k (bit_or (word_from before i 64) (2 ^ r))) there') where
      there : first + (suc k * 64 + r) ≡ first + 64 + (k * 64 + r)
      there = omega arith

      there' : first + 64 + k * 64 ≡ first + suc k * 64
      there' = omega arith
