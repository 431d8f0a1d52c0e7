-- A sorted list of the same pairs is the ordered one.
use Rattle.std.proofs.Common.{◌≡◌, ℕ, ◌+◌, ◌<◌, ◌≤◌, inl, inr, zero, suc, Bool, true, false, List, [], ◌∷◌, length, get_or, refl, sym, ap, ◌∙◌, arith}
use Rattle.std.specs.Prelude.{All, ◌==◌, nat_lt, if◌then◌else◌}
use Rattle.std.specs.List.{sum_by}
use Rattle.std.specs.List.Sorted.{IsPermutation, IsSorted, IsSortedBy}
use Rattle.std.specs.Cmp.{IsStrictWeakOrder}
use Rattle.std.specs.Ordering.{is_lt, nat_cmp, ordering_then}
use Rattle.std.proofs.Common.{Less, Equal, Greater}
use Rattle.std.proofs.lemmas.List.Sums.{sum_by-cons}
use Rattle.std.proofs.lemmas.Bool.Decides.{nat_tests}
use Rattle.std.proofs.lemmas.Bool.{cases_order, lt-ltb, le-ltb, eq-eqb, ne_eqb}
use Rattle.std.proofs.lemmas.List.Sorted.{sum_by-IsPermutation, sorted_far}
use Rattle.std.proofs.lemmas.List.Elements.{All-head, All-tail, All-cons, All-nil}
use Rattle.global_layout.specs.Ordered.{comes_before, put_among, ordered}

-- The order.

one_way : (x y : ℕ × ℕ) → comes_before x y ≡ true → comes_before y x ≡ false
one_way x y before = grind (arith, nat_tests)

chain : (x y z : ℕ × ℕ) → comes_before x y ≡ false → comes_before y z ≡ false → comes_before x z ≡ false
chain x y z first second = grind (arith, nat_tests)

same_pair : (x y : ℕ × ℕ) → comes_before x y ≡ false → comes_before y x ≡ false → x ≡ y
same_pair x y one other =
    let keys : x.0 ≡ y.0 = grind (arith, nat_tests) in
    let numbers : x.1 ≡ y.1 = grind (arith, nat_tests) in
    ap (λ k. (k, x.1)) keys ∙ ap (λ n. (y.0, n)) numbers

not_itself : (x : ℕ × ℕ) → comes_before x x ≡ false
not_itself x = grind (arith, nat_tests)

by_order : IsStrictWeakOrder comes_before
by_order = record { one_way = one_way; chain = chain }

as_tuples : (x y : ℕ × ℕ) → is_lt (ordering_then (nat_cmp x.0 y.0) (nat_cmp x.1 y.1)) ≡ comes_before x y
as_tuples x y =
    elim (cases_order x.0 y.0) [
      | inl same ↦ on_tie same
      | inr apart ↦ elim apart [
        | inl less ↦ before less
        | inr more ↦ behind more
      ]
    ] where
      before : x.0 < y.0 → is_lt (ordering_then (nat_cmp x.0 y.0) (nat_cmp x.1 y.1)) ≡ comes_before x y
      before less = let h = lt-ltb x.0 y.0 less in rw h refl

      behind : y.0 < x.0 → is_lt (ordering_then (nat_cmp x.0 y.0) (nat_cmp x.1 y.1)) ≡ comes_before x y
      behind more =
          let h = le-ltb x.0 y.0 (omega arith) in
          let k = ne_eqb x.0 y.0 (λ e. omega (arith, e, more)) in
          rw (h, k) refl

      on_tie : x.0 ≡ y.0 → is_lt (ordering_then (nat_cmp x.0 y.0) (nat_cmp x.1 y.1)) ≡ comes_before x y
      on_tie same =
          let h = le-ltb x.0 y.0 (omega arith) in
          let k = eq-eqb x.0 y.0 same in
          rw (h, k) (by_second (nat_lt x.1 y.1) (x.1 == y.1)) where
            by_second : (t u : Bool) → is_lt (if t then Less else if u then Equal else Greater) ≡ t
            by_second true u = refl
            by_second false true = refl
            by_second false false = refl

-- Each pair comes before none that stands ahead of it.
Rising : List (ℕ × ℕ) → Type 0
Rising [] = Unit {0}
Rising (pair ∷ more) = All (λ other. comes_before other pair ≡ false) more × Rising more

all_put : (P : ℕ × ℕ → Type 0) (pair : ℕ × ℕ) (pairs : List (ℕ × ℕ)) → P pair → All P pairs → All P (put_among pair pairs)
all_put P pair [] here all = All-cons P pair [] here all
all_put P pair (other ∷ more) here all = by_test (comes_before other pair) (all_put P pair more here (All-tail P other more all)) where
  by_test : (t : Bool) → All P (put_among pair more) → All P (if t then other ∷ put_among pair more else pair ∷ other ∷ more)
  by_test true rest = All-cons P other (put_among pair more) (All-head P other more all) rest
  by_test false rest = All-cons P pair (other ∷ more) here all

pub all-ordered : (P : ℕ × ℕ → Type 0) (pairs : List (ℕ × ℕ)) → All P pairs → All P (ordered pairs)
all-ordered P [] all = All-nil P
all-ordered P (pair ∷ more) all = all_put P pair (ordered more) (All-head P pair more all) (all-ordered P more (All-tail P pair more all))

rising_put : (pair : ℕ × ℕ) (pairs : List (ℕ × ℕ)) → Rising pairs → Rising (put_among pair pairs)
unfolding Rising
rising_put pair [] rising = (All-nil (λ other. comes_before other pair ≡ false), tt)
rising_put pair (other ∷ more) rising = by_test (comes_before other pair) refl (rising_put pair more rising.1) where
  by_test : (t : Bool) → comes_before other pair ≡ t → Rising (put_among pair more) → Rising (if t then other ∷ put_among pair more else pair ∷ other ∷ more)
  by_test true is rest = (all_put (λ p. comes_before p other ≡ false) pair more (one_way other pair is) rising.0, rest)
  by_test false is rest = (
    All-cons (λ p. comes_before p pair ≡ false) other more is (λ k d within. chain (get_or more k d) other pair (rising.0 k d within) is),
    rising,
  )

rising_ordered : (pairs : List (ℕ × ℕ)) → Rising (ordered pairs)
unfolding Rising
rising_ordered [] = tt
rising_ordered (pair ∷ more) = rising_put pair (ordered more) (rising_ordered more)

total : (ℕ × ℕ → ℕ) → List (ℕ × ℕ) → ℕ
total f [] = 0
total f (pair ∷ more) = f pair + total f more

total_sum : (f : ℕ × ℕ → ℕ) (pairs : List (ℕ × ℕ)) → sum_by f pairs ≡ total f pairs
unfolding total
total_sum f [] = refl
total_sum f (pair ∷ more) = sum_by-cons f pair more ∙ ap (λ n. f pair + n) (total_sum f more)

total_put : (f : ℕ × ℕ → ℕ) (pair : ℕ × ℕ) (pairs : List (ℕ × ℕ)) → total f (put_among pair pairs) ≡ f pair + total f pairs
unfolding total
total_put f pair [] = refl
total_put f pair (other ∷ more) = by_test (comes_before other pair) (total_put f pair more) where
  by_test : (t : Bool) → total f (put_among pair more) ≡ f pair + total f more
      → total f (if t then other ∷ put_among pair more else pair ∷ other ∷ more) ≡ f pair + total f (other ∷ more)
  by_test true rest = turned (f other) (f pair) (total f (put_among pair more)) (total f more) rest where
    turned : (o p t m : ℕ) → t ≡ p + m → o + t ≡ p + (o + m)
    turned o p t m rest = omega (arith, rest)
  by_test false rest = refl

total_ordered : (f : ℕ × ℕ → ℕ) (pairs : List (ℕ × ℕ)) → total f (ordered pairs) ≡ total f pairs
unfolding total
total_ordered f [] = refl
total_ordered f (pair ∷ more) = total_put f pair (ordered more) ∙ ap (λ n. f pair + n) (total_ordered f more)

-- Two rising lists of the same pairs are one.

abbrev Same : List (ℕ × ℕ) → List (ℕ × ℕ) → Type 0
Same xs ys = (f : ℕ × ℕ → ℕ) → total f xs ≡ total f ys

ahead : ℕ × ℕ → ℕ × ℕ → ℕ
ahead pair other = if comes_before other pair then 1 else 0

none_ahead : (pair : ℕ × ℕ) (pairs : List (ℕ × ℕ)) → All (λ other. comes_before other pair ≡ false) pairs → total (ahead pair) pairs ≡ 0
unfolding ahead total
none_ahead pair [] all = refl
none_ahead pair (other ∷ more) all =
    ap (λ (t : Bool). (if t then 1 else 0) + total (ahead pair) more) (All-head (λ p. comes_before p pair ≡ false) other more all)
    ∙ ap (λ n. 0 + n) (none_ahead pair more (All-tail (λ p. comes_before p pair ≡ false) other more all))

not_ahead : (pair other : ℕ × ℕ) → ahead pair other ≡ 0 → comes_before other pair ≡ false
unfolding ahead
not_ahead pair other none = by_test (comes_before other pair) none where
  by_test : (t : Bool) → ◌≡◌ {A = ℕ} (if t then 1 else 0) 0 → t ≡ false
  by_test true none = absurd (omega (arith, none))
  by_test false none = refl

-- the first of a rising list comes behind none of the other
first_not_ahead : (x y : ℕ × ℕ) (xs ys : List (ℕ × ℕ)) → Rising (y ∷ ys) → Same (x ∷ xs) (y ∷ ys) → comes_before x y ≡ false
unfolding Rising total
first_not_ahead x y xs ys rising same =
    let none : total (ahead y) (y ∷ ys) ≡ 0 = none_ahead y (y ∷ ys) (All-cons (λ p. comes_before p y ≡ false) y ys (not_itself y) rising.0) in
    let both : ahead y x + total (ahead y) xs ≡ 0 = same (ahead y) ∙ none in
    not_ahead y x (first_none (ahead y x) (total (ahead y) xs) both) where
      first_none : (m n : ℕ) → m + n ≡ 0 → m ≡ 0
      first_none m n both = omega (arith, both)

rest_same : (x y : ℕ × ℕ) (xs ys : List (ℕ × ℕ)) → x ≡ y → Same (x ∷ xs) (y ∷ ys) → Same xs ys
unfolding total
rest_same x y xs ys first same f = cancelled (f x) (f y) (total f xs) (total f ys) (ap f first) (same f) where
  cancelled : (a b m n : ℕ) → a ≡ b → a + m ≡ b + n → m ≡ n
  cancelled a b m n head both = omega (arith, head, both)

not_none : (n : ℕ) → 0 ≡ 1 + n → ⊥
not_none n h = omega (arith, h)

unique : (xs ys : List (ℕ × ℕ)) → Rising xs → Rising ys → Same xs ys → xs ≡ ys
unfolding Rising total
unique [] [] one other same = refl
unique [] (y ∷ ys) one other same = absurd (not_none (total (λ p. 1) ys) (same (λ p. 1)))
unique (x ∷ xs) [] one other same = absurd (not_none (total (λ p. 1) xs) (sym (same (λ p. 1))))
unique (x ∷ xs) (y ∷ ys) one other same =
    let first : x ≡ y = same_pair x y (first_not_ahead x y xs ys other same) (first_not_ahead y x ys xs one (λ f. sym (same f))) in
    ap (λ p. p ∷ xs) first ∙ ap (λ ps. y ∷ ps) (unique xs ys one.1 other.1 (rest_same x y xs ys first same))

rising_from : (pairs : List (ℕ × ℕ)) → ((i j : ℕ) (d : ℕ × ℕ) → i ≤ j → j < length pairs → comes_before (get_or pairs j d) (get_or pairs i d) ≡ false) → Rising pairs
unfolding Rising
rising_from [] far = tt
rising_from (pair ∷ more) far = (
  λ k d within. far zero (suc k) d (omega arith) (omega arith),
  rising_from more (λ i j d before within. far (suc i) (suc j) d (omega arith) (omega arith)),
)

-- what `sort` gives
pub sorted-ordered : (pairs result : List (ℕ × ℕ)) → IsPermutation pairs result → IsSorted (λ x y. ordering_then (nat_cmp x.0 y.0) (nat_cmp x.1 y.1)) result
    → result ≡ ordered pairs
sorted-ordered pairs result moved sorted =
    let by : IsSortedBy comes_before result = λ k d from below. sym (as_tuples (get_or result (k + 1) d) (get_or result k d)) ∙ sorted k d from below in
    unique result (ordered pairs) (rising_from result (λ i j d before within. sorted_far comes_before by_order result by i j d before within)) (rising_ordered pairs)
    (λ f. sym (total_sum f result) ∙ sum_by-IsPermutation f pairs result moved ∙ total_sum f pairs ∙ sym (total_ordered f pairs))
