-- The set that the steps of `build` make.
use Rattle.std.proofs.Common.{◌≡◌, ℕ, ◌+◌, ◌-◌, ◌*◌, ◌/◌, ◌%◌, ◌^◌, ◌<◌, ◌≤◌, Bool, true, false, List, [], ◌∷◌, length, refl, sym, ap, subst, ◌∙◌, arith}
use Rattle.std.specs.Prelude.{All, if◌then◌else◌, nat_lt, ◌==◌}
use Rattle.std.specs.Int.{bit_at}
use Rattle.bit_sets.specs.declared.set.Kind.{Kind}
use Rattle.bit_sets.specs.declared.set.Kind.TheVariants.{Single, AllOnes, Inline, ByteArray}
use Rattle.bit_sets.specs.BitSet.{AreOffsets, least, greatest, mask_from, align_of_mask, align_of, size_m1_of, IsBit, bit_of, set_bit_of, bit_in, words_from, word_count, kind_of, set_of, some_set}
use Rattle.bit_sets.proofs.NumberLemmas.{least-each, size-small, bits-each}
use Rattle.bit_sets.proofs.WordLemmas.{get_or-words, word-bit, holds-same}

-- What the calls of `build` ask.

-- the numbers that `build` computes
pub record AreNumbers (members : List ℕ) (low high mask align : ℕ) : Type 0 where
  pub is_low : low ≡ least members
  pub is_high : high ≡ greatest members
  pub is_mask : mask ≡ mask_from low members
  pub is_align : align ≡ align_of_mask mask

pub same_align : (members : List ℕ) (low high mask align : ℕ) → AreNumbers members low high mask align → align ≡ align_of members
same_align members low high mask align numbers =
    numbers.is_align ∙ ap align_of_mask numbers.is_mask ∙ ap (λ l. align_of_mask (mask_from l members)) numbers.is_low

pub same_size : (members : List ℕ) (low high mask align : ℕ) → AreNumbers members low high mask align → (high - low) / 2 ^ align ≡ size_m1_of members
same_size members low high mask align numbers =
    ap (λ h. (h - low) / 2 ^ align) numbers.is_high ∙ ap (λ l. (greatest members - l) / 2 ^ align) numbers.is_low
    ∙ ap (λ a. (greatest members - least members) / 2 ^ a) (same_align members low high mask align numbers)

pub low-each : (members : List ℕ) (low : ℕ) → low ≡ least members → All (λ member. low ≤ member) members
low-each members low is = subst (λ l. All (λ member. l ≤ member) members) (sym is) (least-each members)

pub numbers-small : (members : List ℕ) (low high mask align : ℕ) → AreOffsets members → AreNumbers members low high mask align → (high - low) / 2 ^ align < 2 ^ 27
numbers-small members low high mask align all numbers =
    subst (λ s. s < 2 ^ 27) (sym (same_size members low high mask align numbers)) (size-small members all)

pub numbers-bits : (members : List ℕ) (low high mask align : ℕ) → AreOffsets members → AreNumbers members low high mask align
    → All (IsBit low align ((high - low) / 2 ^ align)) members
numbers-bits members low high mask align all numbers =
    subst (λ l. All (IsBit l align ((high - low) / 2 ^ align)) members) (sym numbers.is_low)
    (subst (λ a. All (IsBit (least members) a ((high - low) / 2 ^ align)) members) (sym (same_align members low high mask align numbers))
    (subst (λ s. All (IsBit (least members) (align_of members) s) members) (sym (same_size members low high mask align numbers)) (bits-each members all)))

-- The bits that the words hold.

pub bit_in-words : (bit : ℕ → Bool) (n i : ℕ) → i / 64 < n → bit_in (words_from bit 0 n) i ≡ bit i
bit_in-words bit n i within =
    ap (λ w. bit_at w (i % 64) == 1) (get_or-words bit 0 n (i / 64) 0 within)
    ∙ ap (λ f. f == 1) (word-bit bit (0 + i / 64 * 64) 64 (i % 64) (omega arith)) ∙ flag_is (bit (0 + i / 64 * 64 + i % 64)) ∙ ap bit place where
      flag_is : (b : Bool) → ((if b then 1 else 0) == 1) ≡ b
      flag_is true = refl
      flag_is false = refl

      place : 0 + i / 64 * 64 + i % 64 ≡ i
      place = omega arith

pub kind-same : (one other : ℕ → Bool) (span size : ℕ) → ((k : ℕ) → k < size + 1 → one k ≡ other k) → kind_of one span size ≡ kind_of other span size
kind-same one other span size same =
    ap (λ (full : Bool). if span == 0 then Single else if full then AllOnes else if nat_lt size 64 then Inline else ByteArray)
    (holds-same one other (size + 1) same)

-- The whole set.

pub set-from : (members : List ℕ) (low high mask align : ℕ) (words : List ℕ) (kind : Kind) → 0 < length members → AreNumbers members low high mask align
    → words ≡ words_from (bit_of members low align) 0 (word_count ((high - low) / 2 ^ align))
    → kind ≡ kind_of (bit_in words) (high - low) ((high - low) / 2 ^ align)
    → record { kind = kind; min = low; align = align; size_m1 = (high - low) / 2 ^ align; words = words } ≡ set_of members
set-from [] low high mask align words kind some numbers is_words is_kind = absurd (omega arith)
set-from (member ∷ more) low high mask align words kind some numbers is_words is_kind =
    let members : List ℕ = member ∷ more in
    let align' = same_align members low high mask align numbers in
    let size' = same_size members low high mask align numbers in
    let size : ℕ = (high - low) / 2 ^ align in
    let words' : words ≡ words_from (set_bit_of members) 0 (word_count (size_m1_of members)) =
    is_words ∙ ap (λ l. words_from (bit_of members l align) 0 (word_count size)) numbers.is_low
    ∙ ap (λ a. words_from (bit_of members (least members) a) 0 (word_count size)) align'
    ∙ ap (λ s. words_from (set_bit_of members) 0 (word_count s)) size' in
    let span' : high - low ≡ greatest members - least members = ap (λ h. h - low) numbers.is_high ∙ ap (λ l. greatest members - l) numbers.is_low in
    let kind' : kind ≡ kind_of (set_bit_of members) (greatest members - least members) (size_m1_of members) =
    is_kind ∙ ap (λ s. kind_of (bit_in words) s size) span' ∙ ap (kind_of (bit_in words) (greatest members - least members)) size'
    ∙ ap (λ ws. kind_of (bit_in ws) (greatest members - least members) (size_m1_of members)) words'
    ∙ kind-same (bit_in (words_from (set_bit_of members) 0 (word_count (size_m1_of members)))) (set_bit_of members) (greatest members - least members) (size_m1_of members)
    (λ k below. bit_in-words (set_bit_of members) (word_count (size_m1_of members)) k (in_words k (size_m1_of members) below)) in
    ap (λ k. record { kind = k; min = low; align = align; size_m1 = size; words = words }) kind'
    ∙ ap (λ l. record { kind = (some_set members).kind; min = l; align = align; size_m1 = size; words = words }) numbers.is_low
    ∙ ap (λ a. record { kind = (some_set members).kind; min = least members; align = a; size_m1 = size; words = words }) align'
    ∙ ap (λ s. record { kind = (some_set members).kind; min = least members; align = align_of members; size_m1 = s; words = words }) size'
    ∙ ap (λ ws. record { kind = (some_set members).kind; min = least members; align = align_of members; size_m1 = size_m1_of members; words = ws }) words' where
      in_words : (k s : ℕ) → k < s + 1 → k / 64 < word_count s
      in_words k s below = omega arith
