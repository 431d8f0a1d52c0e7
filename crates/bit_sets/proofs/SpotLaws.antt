-- A spot stands exactly for a byte array.
use Rattle.std.proofs.Common.{◌≡◌, ℕ, ◌+◌, ◌-◌, ◌^◌, ◌<◌, ◌⊎◌, inl, inr, zero, suc, Bool, true, false, List, [], ◌∷◌, ◌++◌, length, get_or, set, fold, replicate, refl, sym, ap, subst, ◌∙◌, arith, Option, Some, None}
use Rattle.std.specs.Prelude.{All, if◌then◌else◌, IsSome}
use Rattle.std.proofs.lemmas.Bool.{cases_eq}
use Rattle.std.proofs.lemmas.List.{length-set, get_or-set_same, get_or-set_other, length-replicate}
use Rattle.std.proofs.lemmas.List.Elements.{All-cons, All-nil}
use Rattle.bit_sets.specs.declared.set.BitSet.{BitSet}
use Rattle.bit_sets.specs.declared.lanes.Spot.{Spot}
use Rattle.bit_sets.specs.declared.filling.Filling.{Filling}
use Rattle.bit_sets.specs.declared.filling.Stood.{Stood}
use Rattle.bit_sets.specs.BitSet.{no_set}
use Rattle.bit_sets.specs.Ordered.{comes_before, put_among, ordered}
use Rattle.bit_sets.specs.Laws.{ArraysHaveSpots}
use Rattle.bit_sets.specs.Lanes.{set_at, is_byte_array, arrays_from, array_order, filled, filled_more, none_filled, lanes_of}
use Rattle.bit_sets.proofs.OrderedLemmas.{all-ordered}
use Rattle.bit_sets.proofs.LanesLemmas.{stood-each}
use Rattle.bit_sets.proofs.LaneLaws.{spot-from, not-none}

-- What is placed is a byte array.

IsArray : List BitSet → ℕ → Type 0
IsArray sets number = is_byte_array (set_at sets number).kind ≡ true

only_arrays : (sets rest : List BitSet) (number : ℕ) → ((i : ℕ) → i < length rest → get_or rest i no_set ≡ set_at sets (number + i))
    → All (λ pair. IsArray sets pair.1) (arrays_from number rest)
unfolding IsArray
only_arrays sets [] number same = All-nil (λ pair. IsArray sets pair.1)
only_arrays sets (one ∷ rest) number same =
    by_test (is_byte_array one.kind) refl (only_arrays sets rest (number + 1) (λ i within. same (suc i) (omega arith) ∙ ap (set_at sets) (there i)))
  where
    there : (i : ℕ) → number + suc i ≡ number + 1 + i
    there i = omega arith

    here : one ≡ set_at sets number
    here = same 0 (omega arith) ∙ ap (set_at sets) (none_more number) where
      none_more : (n : ℕ) → n + 0 ≡ n
      none_more n = omega arith

    by_test : (t : Bool) → is_byte_array one.kind ≡ t → All (λ pair. IsArray sets pair.1) (arrays_from (number + 1) rest)
        → All (λ pair. IsArray sets pair.1) (if t then (2 ^ 27 - one.size_m1, number) ∷ arrays_from (number + 1) rest else arrays_from (number + 1) rest)
    by_test true is more = All-cons (λ pair. IsArray sets pair.1) (2 ^ 27 - one.size_m1, number) (arrays_from (number + 1) rest)
        (ap (λ (s : BitSet). is_byte_array s.kind) (sym here) ∙ is) more
    by_test false is more = more

stood_arrays : (sets : List BitSet) → All (λ one. IsArray sets one.number) (filled sets).stood
stood_arrays sets = stood-each (IsArray sets) sets none_filled (array_order sets) (All-nil (λ one. IsArray sets one.number))
    (all-ordered (λ pair. IsArray sets pair.1) (arrays_from 0 sets) (only_arrays sets sets 0 (λ i within. ap (set_at sets) (none_before i)))) where
      none_before : (i : ℕ) → i ≡ 0 + i
      none_before i = omega arith

-- Each byte array is placed.

Has : ℕ → List (ℕ × ℕ) → Type 0
Has number [] = ⊥
Has number (pair ∷ more) = (pair.1 ≡ number) ⊎ Has number more

has_array : (rest : List BitSet) (first i : ℕ) → i < length rest → is_byte_array (get_or rest i no_set).kind ≡ true → Has (first + i) (arrays_from first rest)
unfolding Has
has_array [] first i within is = absurd (omega arith)
has_array (one ∷ rest) first zero within is = at_first (is_byte_array one.kind) is where
  at_first : (t : Bool) → t ≡ true → Has (first + 0) (if t then (2 ^ 27 - one.size_m1, first) ∷ arrays_from (first + 1) rest else arrays_from (first + 1) rest)
  at_first true is = inl (none_more first) where
    none_more : (n : ℕ) → n ≡ n + 0
    none_more n = omega arith
  at_first false is = cc
has_array (one ∷ rest) first (suc i) within is = later (is_byte_array one.kind) (subst (λ n. Has n (arrays_from (first + 1) rest)) there (has_array rest (first + 1) i (omega arith) is)) where
  there : first + 1 + i ≡ first + suc i
  there = omega arith

  later : (t : Bool) → Has (first + suc i) (arrays_from (first + 1) rest)
      → Has (first + suc i) (if t then (2 ^ 27 - one.size_m1, first) ∷ arrays_from (first + 1) rest else arrays_from (first + 1) rest)
  later true has = inr has
  later false has = has

has_put : (number : ℕ) (pair : ℕ × ℕ) (pairs : List (ℕ × ℕ)) → (pair.1 ≡ number) ⊎ Has number pairs → Has number (put_among pair pairs)
unfolding Has
has_put number pair [] has = has
has_put number pair (other ∷ more) has =
    by_test (comes_before other pair) (λ h. has_put number pair more h) has where
      by_test : (t : Bool) → ((pair.1 ≡ number) ⊎ Has number more → Has number (put_among pair more)) → (pair.1 ≡ number) ⊎ ((other.1 ≡ number) ⊎ Has number more)
          → Has number (if t then other ∷ put_among pair more else pair ∷ other ∷ more)
      by_test true rest (inl here) = inr (rest (inl here))
      by_test true rest (inr (inl here)) = inl here
      by_test true rest (inr (inr later)) = inr (rest (inr later))
      by_test false rest h = h

has_ordered : (number : ℕ) (pairs : List (ℕ × ℕ)) → Has number pairs → Has number (ordered pairs)
unfolding Has
has_ordered number [] has = has
has_ordered number (pair ∷ more) (inl here) = has_put number pair (ordered more) (inl here)
has_ordered number (pair ∷ more) (inr later) = has_put number pair (ordered more) (inr (has_ordered number more later))

Stands : ℕ → List Stood → Type 0
Stands number [] = ⊥
Stands number (one ∷ more) = (one.number ≡ number) ⊎ Stands number more

stands_push : (number : ℕ) (stood : List Stood) (new : Stood) → Stands number stood ⊎ (new.number ≡ number) → Stands number (stood ++ new ∷ [])
unfolding Stands
stands_push number [] new (inl none) = absurd none
stands_push number [] new (inr here) = inl here
stands_push number (one ∷ more) new (inl (inl here)) = inl here
stands_push number (one ∷ more) new (inl (inr later)) = inr (stands_push number more new (inl later))
stands_push number (one ∷ more) new (inr here) = inr (stands_push number more new (inr here))

stands_each : (sets : List BitSet) (number : ℕ) (filling : Filling) (order : List (ℕ × ℕ)) → Stands number filling.stood ⊎ Has number order
    → Stands number (fold (filled_more sets) filling order).stood
unfolding Has
stands_each sets number filling [] (inl before) = before
stands_each sets number filling [] (inr none) = absurd none
stands_each sets number filling (pair ∷ order) (inl before) =
    stands_each sets number (filled_more sets filling pair) order (inl (stands_push number filling.stood _ (inl before)))
stands_each sets number filling (pair ∷ order) (inr (inl here)) =
    stands_each sets number (filled_more sets filling pair) order (inl (stands_push number filling.stood _ (inr here)))
stands_each sets number filling (pair ∷ order) (inr (inr later)) = stands_each sets number (filled_more sets filling pair) order (inr later)

-- once there, a spot stays
spot_here : (spots : List (Option Spot)) (one : Stood) (number : ℕ) → number < length spots → one.number ≡ number
    → IsSome (get_or (set spots one.number (Some one.spot)) number None)
spot_here spots one number within here =
    subst (λ n. IsSome (get_or (set spots one.number (Some one.spot)) n None)) here
    (subst (λ (o : Option Spot). IsSome o) (sym (get_or-set_same spots one.number (Some one.spot) None (subst (λ n. n < length spots) (sym here) within))) refl)

spot_stays : (spots : List (Option Spot)) (one : Stood) (number : ℕ) → number < length spots → IsSome (get_or spots number None)
    → IsSome (get_or (set spots one.number (Some one.spot)) number None)
spot_stays spots one number within before = elim (cases_eq number one.number) [
  | inl same ↦ spot_here spots one number within (sym same)
  | inr other ↦ subst (λ (o : Option Spot). IsSome o) (sym (get_or-set_other spots one.number number (Some one.spot) None other)) before
]

spot_each : (stood : List Stood) (spots : List (Option Spot)) (number : ℕ) → number < length spots → Stands number stood ⊎ IsSome (get_or spots number None)
    → IsSome (get_or (fold (λ ss one. set ss one.number (Some one.spot)) spots stood) number None)
unfolding Stands
spot_each [] spots number within (inl none) = absurd none
spot_each [] spots number within (inr before) = before
spot_each (one ∷ more) spots number within has =
    spot_each more (set spots one.number (Some one.spot)) number (rw length-set within) (split has) where
      split : ((one.number ≡ number) ⊎ Stands number more) ⊎ IsSome (get_or spots number None)
          → Stands number more ⊎ IsSome (get_or (set spots one.number (Some one.spot)) number None)
      split (inl (inl here)) = inr (spot_here spots one number within here)
      split (inl (inr later)) = inl later
      split (inr before) = inr (spot_stays spots one number within before)

some_is : (o : Option Spot) → IsSome o → (spot : Spot) × (o ≡ Some spot)
some_is (Some spot) is = (spot, refl)
some_is None is = cc

pub arrays-have-spots : ArraysHaveSpots
unfolding IsArray
arrays-have-spots sets number within = (
  λ some. found (some_is (get_or (lanes_of sets).spots number None) some),
  λ array.
      let has : Has (0 + number) (array_order sets) = has_ordered (0 + number) (arrays_from 0 sets) (has_array sets 0 number within array) in
      let has' : Has number (array_order sets) = subst (λ n. Has n (array_order sets)) (none_before number) has in
      spot_each (filled sets).stood (replicate (length sets) None) number (rw length-replicate within)
      (inl (stands_each sets number none_filled (array_order sets) (inr has'))),
) where
  none_before : (n : ℕ) → 0 + n ≡ n
  none_before n = omega arith

  found : (spot : Spot) × (get_or (lanes_of sets).spots number None ≡ Some spot) → is_byte_array (set_at sets number).kind ≡ true
  found (spot, is) = elim (spot-from (filled sets).stood (replicate (length sets) None) number spot is) [
    | inl before ↦ absurd (not-none (length sets) number spot before)
    | inr (j, inside, at) ↦
        let none : Stood = record { number = 0; spot = record { start = 0; mask = 0 } } in
        let array : is_byte_array (set_at sets (get_or (filled sets).stood j none).number).kind ≡ true = stood_arrays sets j none inside in
        subst (λ n. is_byte_array (set_at sets n).kind ≡ true) (at none).0 array
  ]
