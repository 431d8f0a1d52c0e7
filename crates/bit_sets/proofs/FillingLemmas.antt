-- Steps of the placing of byte arrays.
use Rattle.std.proofs.Common.{◌≡◌, ℕ, ◌+◌, ◌-◌, ◌^◌, ◌<◌, ◌≤◌, suc, Bool, true, false, List, [], ◌∷◌, ◌++◌, length, get_or, take, drop, fold, sym, ap, subst, ◌∙◌, arith, add-zero}
use Rattle.std.specs.Prelude.{if◌then◌else◌}
use Rattle.std.proofs.lemmas.List.{take_more, length-take, get_or_default, take-append-drop}
use Rattle.bit_sets.specs.declared.set.BitSet.{BitSet}
use Rattle.bit_sets.specs.declared.filling.Filling.{Filling}
use Rattle.bit_sets.specs.BitSet.{greatest, no_set}
use Rattle.bit_sets.specs.Lanes.{is_byte_array, arrays_from, shortest, set_at, filled_by, filled_more, filled_in, none_filled, most_bytes}
use Rattle.bit_sets.proofs.NumberLemmas.{greatest-set}
use Rattle.std.proofs.lemmas.List.Sums.{fold-append, fold_more}

-- One set more.

append_array : (number : ℕ) (sets : List BitSet) (set : BitSet) → arrays_from number (sets ++ set ∷ []) ≡ arrays_from number sets ++ arrays_from (number + length sets) (set ∷ [])
append_array number [] set = ap (λ n. arrays_from n (set ∷ [])) (sym (add-zero number))
append_array number (one ∷ sets) set =
    by_test (is_byte_array one.kind)
    (append_array (number + 1) sets set ∙ ap (λ n. arrays_from (number + 1) sets ++ arrays_from n (set ∷ [])) (omega arith)) where
      by_test : (t : Bool) → arrays_from (number + 1) (sets ++ set ∷ []) ≡ arrays_from (number + 1) sets ++ arrays_from (number + suc (length sets)) (set ∷ [])
          → (if t then (2 ^ 27 - one.size_m1, number) ∷ arrays_from (number + 1) (sets ++ set ∷ []) else arrays_from (number + 1) (sets ++ set ∷ []))
          ≡ (if t then (2 ^ 27 - one.size_m1, number) ∷ arrays_from (number + 1) sets else arrays_from (number + 1) sets) ++ arrays_from (number + suc (length sets)) (set ∷ [])
      by_test true rest = ap (λ pairs. (2 ^ 27 - one.size_m1, number) ∷ pairs) rest
      by_test false rest = rest

pub arrays-more : (sets : List BitSet) (k : ℕ) (set : BitSet) → k < length sets → set ≡ get_or sets k set
    → arrays_from 0 (take (k + 1) sets) ≡ arrays_from 0 (take k sets) ++ arrays_from k (set ∷ [])
arrays-more sets k set within is =
    ap (arrays_from 0) (take_more sets k set within ∙ ap (λ s. take k sets ++ s ∷ []) (sym is)) ∙ append_array 0 (take k sets) set
    ∙ ap (λ n. arrays_from 0 (take k sets) ++ arrays_from n (set ∷ [])) (taken sets k within) where
      taken : (xs : List BitSet) (n : ℕ) → n < length xs → 0 + length (take n xs) ≡ n
      taken xs n within = grind (arith, length-take)

-- a set that is an array, and one that isn't
pub array-one : (k : ℕ) (set : BitSet) → is_byte_array set.kind ≡ true → arrays_from k (set ∷ []) ≡ (2 ^ 27 - set.size_m1, k) ∷ []
array-one k set is = ap (λ (t : Bool). if t then (2 ^ 27 - set.size_m1, k) ∷ [] else []) is

pub array-none : (k : ℕ) (set : BitSet) → is_byte_array set.kind ≡ false → arrays_from k (set ∷ []) ≡ []
array-none k set is = ap (λ (t : Bool). if t then (2 ^ 27 - set.size_m1, k) ∷ [] else []) is

-- The longest lane.

grows_once : (size_m1 : ℕ) (filling : Filling) (number : ℕ) → greatest filling.lengths ≤ greatest (filled_by size_m1 filling number).lengths
grows_once size_m1 filling number =
    let lane : ℕ = shortest filling.lengths in
    greatest-set filling.lengths lane (get_or filling.lengths lane 0 + (size_m1 + 1)) (omega arith)

grows : (sets : List BitSet) (filling : Filling) (order : List (ℕ × ℕ)) → greatest filling.lengths ≤ greatest (fold (filled_more sets) filling order).lengths
grows sets filling [] = omega arith
grows sets filling (pair ∷ more) =
    let once = grows_once (set_at sets pair.1).size_m1 filling pair.1 in
    let rest = grows sets (filled_more sets filling pair) more in
    omega (arith, once, rest)

-- once a lane is too long, the longest is
pub too-long : (sets : List BitSet) (order : List (ℕ × ℕ)) (k : ℕ) (filling : Filling) → filling ≡ filled_in sets (take k order)
    → most_bytes < greatest filling.lengths → most_bytes < greatest (filled_in sets order).lengths
too-long sets order k filling is long =
    let split : fold (filled_more sets) filling (drop k order) ≡ filled_in sets order =
    ap (λ f. fold (filled_more sets) f (drop k order)) is ∙ sym (fold-append (filled_more sets) none_filled (take k order) (drop k order))
    ∙ ap (filled_in sets) (take-append-drop k order) in
    let more = grows sets filling (drop k order) in
    subst (λ (f : Filling). most_bytes < greatest f.lengths) split (omega (arith, more, long))

-- one array more
pub filled-step : (sets : List BitSet) (order : List (ℕ × ℕ)) (k : ℕ) (filling new : Filling) (d : BitSet) → k < length order
    → (get_or order k (0, 0)).1 < length sets → filling ≡ filled_in sets (take k order)
    → new ≡ filled_by (get_or sets (get_or order k (0, 0)).1 d).size_m1 filling (get_or order k (0, 0)).1
    → new ≡ filled_in sets (take (k + 1) order)
filled-step sets order k filling new d within inside so_far is =
    let pair : ℕ × ℕ = get_or order k (0, 0) in
    is ∙ ap (λ (s : BitSet). filled_by s.size_m1 filling pair.1) (get_or_default sets pair.1 d no_set inside) ∙ ap (λ f. filled_more sets f pair) so_far
    ∙ sym (fold_more (filled_more sets) none_filled order k (0, 0) within)
