-- Arrays of one lane don't overlap, and end before the lane does.
use Rattle.std.proofs.Common.{◌≡◌, ℕ, ◌+◌, ◌^◌, ◌<◌, ◌≤◌, inl, inr, zero, suc, Bool, true, false, List, [], ◌∷◌, ◌++◌, length, get_or, set, fold, refl, sym, subst, ◌∙◌, arith}
use Rattle.std.specs.Prelude.{All, ◌==◌, not, if◌then◌else◌}
use Rattle.std.specs.List.{position_or_len}
use Rattle.std.proofs.lemmas.Bool.{cases_eq, cases_order, eq-eqb}
use Rattle.std.proofs.lemmas.Nat.{pow_below}
use Rattle.std.proofs.lemmas.List.{length-set, get_or-set_same, get_or-set_other}
use Rattle.std.proofs.lemmas.List.Elements.{All-head, All-tail, All-nil, All-push, All-weaker}
use Rattle.bit_sets.specs.declared.set.BitSet.{BitSet}
use Rattle.bit_sets.specs.declared.filling.Filling.{Filling}
use Rattle.bit_sets.specs.declared.filling.Stood.{Stood}
use Rattle.bit_sets.specs.BitSet.{least}
use Rattle.bit_sets.specs.Lanes.{shortest, set_at, filled_more, filled, none_filled, array_order}
use Rattle.bit_sets.proofs.NumberLemmas.{least-reached}

-- the byte behind an array's last
abbrev pub end_of : List BitSet → Stood → ℕ
end_of sets one = one.spot.start + ((set_at sets one.number).size_m1 + 1)

-- an array stands in a lane that reaches its end
abbrev pub EndsIn : List BitSet → List ℕ → Stood → Type 0
EndsIn sets lengths one = (lane : ℕ) × (lane < 8) × (one.spot.mask ≡ 2 ^ lane) × (end_of sets one ≤ get_or lengths lane 0)

-- of two arrays of one lane the first ends before the second begins
abbrev pub IsBehind : List BitSet → Stood → Stood → Type 0
IsBehind sets one other = one.spot.mask ≡ other.spot.mask → end_of sets one ≤ other.spot.start

unfoldable pub AreApart : List BitSet → List Stood → Type 0
AreApart sets [] = Unit {0}
AreApart sets (one ∷ more) = All (IsBehind sets one) more × AreApart sets more

pub record IsFit (sets : List BitSet) (filling : Filling) : Type 0 where
  pub lanes : length filling.lengths ≡ 8
  pub ends : All (EndsIn sets filling.lengths) filling.stood
  pub apart : AreApart sets filling.stood

-- The shortest lane is one of them.

position-within : {X : Type 0} (p : X → Bool) (xs : List X) (k : ℕ) (d : X) → k < length xs → p (get_or xs k d) ≡ true → position_or_len p xs < length xs
position-within p [] k d within is = absurd (omega arith)
position-within p (x ∷ xs) zero d within is = subst (λ (t : Bool). (if not t then 1 + position_or_len p xs else 0) < suc (length xs)) (sym is) (omega arith)
position-within p (x ∷ xs) (suc k) d within is = by_test (p x) (position-within p xs k d (omega arith) is) where
  by_test : (t : Bool) → position_or_len p xs < length xs → (if not t then 1 + position_or_len p xs else 0) < suc (length xs)
  by_test true rest = omega arith
  by_test false rest = omega (arith, rest)

pub shortest-within : (lengths : List ℕ) → 0 < length lengths → shortest lengths < length lengths
shortest-within lengths some =
    let (k, within, at) = least-reached lengths some in
    position-within (λ len. len == least lengths) lengths k 0 within (eq-eqb (get_or lengths k 0) (least lengths) at)

-- One array more.

longer : (lengths : List ℕ) (lane len k : ℕ) → lane < length lengths → get_or lengths lane 0 ≤ len → get_or lengths k 0 ≤ get_or (set lengths lane len) k 0
longer lengths lane len k within more = elim (cases_eq k lane) [
  | inl same ↦ at_lane same
  | inr other ↦ subst (λ n. get_or lengths k 0 ≤ n) (sym (get_or-set_other lengths lane k len 0 other)) (omega arith)
] where
  at_lane : k ≡ lane → get_or lengths k 0 ≤ get_or (set lengths lane len) k 0
  at_lane same = subst (λ j. get_or lengths j 0 ≤ get_or (set lengths lane len) j 0) (sym same)
      (subst (λ n. get_or lengths lane 0 ≤ n) (sym (get_or-set_same lengths lane len 0 within)) more)

still_ends : (sets : List BitSet) (lengths : List ℕ) (lane len : ℕ) → lane < length lengths → get_or lengths lane 0 ≤ len
    → (one : Stood) → EndsIn sets lengths one → EndsIn sets (set lengths lane len) one
still_ends sets lengths lane len within more one (own, small, mask, ends) =
    let grown = longer lengths lane len own within more in
    (own, small, mask, omega (arith, ends, grown))

apart-push : (sets : List BitSet) (stood : List Stood) (new : Stood) → AreApart sets stood → All (λ one. IsBehind sets one new) stood → AreApart sets (stood ++ new ∷ [])
unfolding AreApart
apart-push sets [] new apart behind = (All-nil (IsBehind sets new), tt)
apart-push sets (one ∷ more) new apart behind = (
  All-push (IsBehind sets one) more new apart.0 (All-head (λ s. IsBehind sets s new) one more behind),
  apart-push sets more new apart.1 (All-tail (λ s. IsBehind sets s new) one more behind),
)

same_power : (i j : ℕ) → 2 ^ i ≡ 2 ^ j → i ≡ j
same_power i j same = elim (cases_order i j) [
  | inl is ↦ is
  | inr apart ↦ elim apart [
    | inl less ↦ absurd (let h = pow_below i j less in omega (arith, h, same))
    | inr more ↦ absurd (let h = pow_below j i more in omega (arith, h, same))
  ]
]

fit-more : (sets : List BitSet) (filling : Filling) (pair : ℕ × ℕ) → IsFit sets filling → IsFit sets (filled_more sets filling pair)
fit-more sets filling pair fit =
    let lengths : List ℕ = filling.lengths in
    let lane : ℕ = shortest lengths in
    let start : ℕ = get_or lengths lane 0 in
    let len : ℕ = start + ((set_at sets pair.1).size_m1 + 1) in
    let new : Stood = record { number = pair.1; spot = record { start = start; mask = 2 ^ lane } } in
    let lanes = fit.lanes in
    let within : lane < length lengths = shortest-within lengths (omega (arith, lanes)) in
    let more : start ≤ len = omega arith in
    let reached : get_or (set lengths lane len) lane 0 ≡ len = get_or-set_same lengths lane len 0 within in
    record {
      lanes = length-set lengths lane len ∙ lanes;
      ends = All-push (EndsIn sets (set lengths lane len)) filling.stood new
          (All-weaker (EndsIn sets lengths) (EndsIn sets (set lengths lane len)) (still_ends sets lengths lane len within more) filling.stood fit.ends)
          (lane, omega (arith, within, lanes), refl, omega (arith, reached));
      apart = apart-push sets filling.stood new fit.apart
          (All-weaker (EndsIn sets lengths) (λ one. IsBehind sets one new) behind filling.stood fit.ends);
    } where
      behind : (one : Stood) → EndsIn sets filling.lengths one
          → one.spot.mask ≡ 2 ^ shortest filling.lengths → end_of sets one ≤ get_or filling.lengths (shortest filling.lengths) 0
      behind one (own, small, mask, ends) same =
          subst (λ l. end_of sets one ≤ get_or filling.lengths l 0) (same_power own (shortest filling.lengths) (sym mask ∙ same)) ends

fit-each : (sets : List BitSet) (filling : Filling) (order : List (ℕ × ℕ)) → IsFit sets filling → IsFit sets (fold (filled_more sets) filling order)
fit-each sets filling [] fit = fit
fit-each sets filling (pair ∷ order) fit = fit-each sets (filled_more sets filling pair) order (fit-more sets filling pair fit)

fit-none : (sets : List BitSet) → IsFit sets none_filled
unfolding AreApart
fit-none sets = record { lanes = refl; ends = All-nil (EndsIn sets none_filled.lengths); apart = tt }

pub fit-filled : (sets : List BitSet) → IsFit sets (filled sets)
fit-filled sets = fit-each sets none_filled (array_order sets) (fit-none sets)
