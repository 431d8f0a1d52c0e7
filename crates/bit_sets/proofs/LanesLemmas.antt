-- What the placing asks of the sets.
use Rattle.std.proofs.Common.{ℕ, ◌+◌, ◌-◌, ◌^◌, ◌<◌, ◌≤◌, Bool, true, false, List, [], ◌∷◌, length, get_or, fold, sym, subst, arith}
use Rattle.std.specs.Prelude.{All, if◌then◌else◌}
use Rattle.std.proofs.lemmas.List.Elements.{All-head, All-tail, All-cons, All-nil, All-push, All-weaker}
use Rattle.bit_sets.specs.declared.set.BitSet.{BitSet}
use Rattle.bit_sets.specs.declared.filling.Filling.{Filling}
use Rattle.bit_sets.specs.BitSet.{IsSet, AreOffsets, set_of}
use Rattle.bit_sets.specs.Lanes.{is_byte_array, arrays_from, array_order, shortest, filled_more, filled, none_filled}
use Rattle.bit_sets.proofs.NumberLemmas.{size-small}
use Rattle.bit_sets.proofs.OrderedLemmas.{all-ordered}

size_of_some : (members : List ℕ) → AreOffsets members → (set_of members).size_m1 < 2 ^ 27
size_of_some [] all = omega arith
size_of_some (member ∷ more) all = size-small (member ∷ more) all

pub size-of-set : (set : BitSet) → IsSet set → set.size_m1 < 2 ^ 27
size-of-set set is = subst (λ (s : BitSet). s.size_m1 < 2 ^ 27) (sym is.is) (size_of_some is.members is.are_offsets)

pub sizes-small : (sets : List BitSet) → All IsSet sets → All (λ set. set.size_m1 < 2 ^ 27) sets
sizes-small sets all = All-weaker IsSet (λ set. set.size_m1 < 2 ^ 27) size-of-set sets all

arrays_within : (number end : ℕ) (sets : List BitSet) → number + length sets ≤ end → All (λ pair. pair.1 < end) (arrays_from number sets)
arrays_within number end [] fits = All-nil (λ pair. pair.1 < end)
arrays_within number end (set ∷ sets) fits = by_test (is_byte_array set.kind) (arrays_within (number + 1) end sets (omega arith)) where
  by_test : (t : Bool) → All (λ pair. pair.1 < end) (arrays_from (number + 1) sets)
      → All (λ pair. pair.1 < end) (if t then (2 ^ 27 - set.size_m1, number) ∷ arrays_from (number + 1) sets else arrays_from (number + 1) sets)
  by_test true rest = All-cons (λ pair. pair.1 < end) (2 ^ 27 - set.size_m1, number) (arrays_from (number + 1) sets) (omega arith) rest
  by_test false rest = rest

pub order-within : (sets : List BitSet) → All (λ pair. pair.1 < length sets) (array_order sets)
order-within sets = all-ordered (λ pair. pair.1 < length sets) (arrays_from 0 sets) (arrays_within 0 (length sets) sets (omega arith))

pub stood-each : (P : ℕ → Type 0) (sets : List BitSet) (filling : Filling) (order : List (ℕ × ℕ)) → All (λ one. P one.number) filling.stood
    → All (λ pair. P pair.1) order → All (λ one. P one.number) (fold (filled_more sets) filling order).stood
stood-each P sets filling [] before all = before
stood-each P sets filling (pair ∷ order) before all =
    stood-each P sets (filled_more sets filling pair) order
    (All-push (λ one. P one.number) filling.stood
    (record { number = pair.1; spot = record { start = get_or filling.lengths (shortest filling.lengths) 0; mask = 2 ^ shortest filling.lengths } })
    before (All-head (λ p. P p.1) pair order all))
    (All-tail (λ p. P p.1) pair order all)

pub stood-within : (sets : List BitSet) → All (λ one. one.number < length sets) (filled sets).stood
stood-within sets = stood-each (λ n. n < length sets) sets none_filled (array_order sets) (All-nil (λ one. one.number < length sets)) (order-within sets)
