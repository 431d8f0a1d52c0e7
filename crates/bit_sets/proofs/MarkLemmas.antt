-- The bit of one more offset.
use Rattle.std.proofs.Common.{◌≡◌, ℕ, ◌+◌, ◌-◌, ◌*◌, ◌/◌, ◌%◌, ◌^◌, ◌<◌, ◌≤◌, inl, inr, Bool, ◌||◌, List, length, get_or, set, take, refl, sym, ap, ◌∙◌, arith}
use Rattle.std.specs.Prelude.{◌==◌}
use Rattle.std.specs.Int.Bits.{bit_or}
use Rattle.std.proofs.lemmas.List.Folds.{list_any_more}
use Rattle.std.proofs.lemmas.Nat.{one_shl, shl-shr}
use Rattle.std.proofs.lemmas.Bool.{cases_eq, eq-eqb, ne_eqb}
use Rattle.bit_sets.specs.BitSet.{bit_of, word_count, words_from, word_from, IsBit}
use Rattle.bit_sets.proofs.WordLemmas.{words-marked, get_or-words}

pub mark-within : (low align size_m1 offset len : ℕ) → IsBit low align size_m1 offset → len ≡ word_count size_m1 → (offset - low) / 2 ^ align / 64 < len
mark-within low align size_m1 offset len is count = from_bound ((offset - low) / 2 ^ align) size_m1 len is.within count where
  from_bound : (p size len : ℕ) → p ≤ size → len ≡ size / 64 + 1 → p / 64 < len
  from_bound p size len within count = omega arith

-- the member stands at its bit and at no other
same_place : (low align size_m1 offset i : ℕ) → IsBit low align size_m1 offset
    → (offset == low + i * 2 ^ align) ≡ (i == 0 + ((offset - low) / 2 ^ align / 64 * 64 + (offset - low) / 2 ^ align % 64))
same_place low align size_m1 offset i is =
    let p : ℕ = (offset - low) / 2 ^ align in
    let whole : p / 64 * 64 + p % 64 ≡ p = omega arith in
    elim (cases_eq i p) [
      | inl same ↦ eq-eqb offset (low + i * 2 ^ align) (back same) ∙ sym (eq-eqb i (0 + (p / 64 * 64 + p % 64)) (omega arith))
      | inr other ↦ ne_eqb offset (low + i * 2 ^ align) (λ h. other (there h)) ∙ sym (ne_eqb i (0 + (p / 64 * 64 + p % 64)) (λ h. other (omega arith)))
    ] where
      back : i ≡ (offset - low) / 2 ^ align → offset ≡ low + i * 2 ^ align
      back same =
          let times : i * 2 ^ align ≡ offset - low = ap (λ n. n * 2 ^ align) same ∙ is.on_step in
          let above = is.above in
          omega arith

      there : offset ≡ low + i * 2 ^ align → i ≡ (offset - low) / 2 ^ align
      there h =
          let distance : offset - low ≡ i * 2 ^ align = omega arith in
          sym (ap (λ n. n / 2 ^ align) distance ∙ shl-shr i align)

pub marked-offset : (offsets : List ℕ) (low align size_m1 k : ℕ) (words : List ℕ) (word : ℕ) → k < length offsets
    → IsBit low align size_m1 (get_or offsets k 0)
    → words ≡ words_from (bit_of (take k offsets) low align) 0 (word_count size_m1)
    → word ≡ get_or words ((get_or offsets k 0 - low) / 2 ^ align / 64) word
    → set words ((get_or offsets k 0 - low) / 2 ^ align / 64) (bit_or word (1 * 2 ^ ((get_or offsets k 0 - low) / 2 ^ align % 64) % 2 ^ 64))
    ≡ words_from (bit_of (take (k + 1) offsets) low align) 0 (word_count size_m1)
marked-offset offsets low align size_m1 k words word within is so_far read =
    let p : ℕ = (get_or offsets k 0 - low) / 2 ^ align in
    let before : ℕ → Bool = bit_of (take k offsets) low align in
    let after : ℕ → Bool = bit_of (take (k + 1) offsets) low align in
    let inside : p / 64 < word_count size_m1 = mark-within low align size_m1 (get_or offsets k 0) (word_count size_m1) is refl in
    let read' : word ≡ word_from before (0 + p / 64 * 64) 64 =
    read ∙ ap (λ ws. get_or ws (p / 64) word) so_far ∙ get_or-words before 0 (word_count size_m1) (p / 64) word inside in
    let small : p % 64 < 64 = omega arith in
    let marked : (i : ℕ) → after i ≡ (before i || (i == 0 + (p / 64 * 64 + p % 64))) =
    λ i. list_any_more (λ member. member == low + i * 2 ^ align) offsets k 0 within
    ∙ ap (λ b. before i || b) (same_place low align size_m1 (get_or offsets k 0) i is) in
    ap (λ ws. set ws (p / 64) (bit_or word (1 * 2 ^ (p % 64) % 2 ^ 64))) so_far
    ∙ ap (λ n. set (words_from before 0 (word_count size_m1)) (p / 64) (bit_or word n)) (one_shl (p % 64) 64 small)
    ∙ ap (λ w. set (words_from before 0 (word_count size_m1)) (p / 64) (bit_or w (2 ^ (p % 64)))) read'
    ∙ sym (words-marked before after 0 (word_count size_m1) (p / 64) (p % 64) marked inside small)
