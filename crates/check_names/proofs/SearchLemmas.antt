-- The first place in a list, and whether there is one.
use Rattle.std.proofs.Common.{◌≡◌, refl, ◌∙◌, ap, ℕ, zero, suc, ◌+◌, ◌≤◌, Bool, true, false, cond, ◌||◌, nat_lt, List, [], ◌∷◌, take, Some, None, arith}
use Rattle.std.specs.Prelude.{is_some, slice_get, find}
use Rattle.std.specs.List.{list_any, position_from}
use Rattle.check_names.specs.Index.{is_before}

-- there is a place exactly where some item passes
pub some_place : {X : Type 0} (test : X → Bool) (i : ℕ) (xs : List X) → is_some (position_from test i xs) ≡ list_any test xs
some_place test i [] = refl
some_place test i (x ∷ xs) = elim (test x) as (λ b. is_some (cond b (Some i) (position_from test (i + 1) xs)) ≡ b || list_any test xs)
    [ true ↦ refl | false ↦ some_place test (i + 1) xs ]

at_or_behind : (i n : ℕ) → n ≤ i → nat_lt i n ≡ false
at_or_behind i n behind = grind arith

-- a place is not before where the list starts
none_before : {X : Type 0} (test : X → Bool) (i n : ℕ) (xs : List X) → n ≤ i → is_before n (position_from test i xs) ≡ false
none_before test i n [] behind = refl
none_before test i n (x ∷ xs) behind = elim (test x) as (λ b. is_before n (cond b (Some i) (position_from test (i + 1) xs)) ≡ false)
    [ true ↦ at_or_behind i n behind | false ↦ none_before test (i + 1) n xs (omega arith) ]

before_next : (i n : ℕ) → nat_lt i (i + suc n) ≡ true
before_next i n = grind arith

-- there is a place before another exactly where some item before that passes
pub place_before : {X : Type 0} (test : X → Bool) (i n : ℕ) (xs : List X)
    → is_before (i + n) (position_from test i xs) ≡ list_any test (take n xs)
place_before test i zero xs = none_before test i (i + 0) xs (omega arith)
place_before test i (suc n) [] = refl
place_before test i (suc n) (x ∷ xs) =
    let rest : is_before (i + suc n) (position_from test (i + 1) xs) ≡ list_any test (take n xs) =
    ap (λ end. is_before end (position_from test (i + 1) xs)) (omega arith) ∙ place_before test (i + 1) n xs in
    elim (test x) as (λ b. is_before (i + suc n) (cond b (Some i) (position_from test (i + 1) xs)) ≡ b || list_any test (take n xs))
    [ true ↦ before_next i n | false ↦ rest ]

pub first_before : {X : Type 0} (test : X → Bool) (n : ℕ) (xs : List X) → is_before n (position_from test 0 xs) ≡ list_any test (take n xs)
first_before test n xs = ap (λ end. is_before end (position_from test 0 xs)) (omega arith) ∙ place_before test 0 n xs

-- a place is not before where the list starts
from_start : {X : Type 0} (test : X → Bool) (i p : ℕ) (xs : List X) → position_from test i xs ≡ Some p → i ≤ p
from_start test i p [] is = grind arith
from_start test i p (x ∷ xs) is = let behind = from_start test (i + 1) p xs in
    let choice : (b : Bool) → cond b (Some i) (position_from test (i + 1) xs) ≡ Some p → i ≤ p = λ b. elim b as (λ c. cond c (Some i) (position_from test (i + 1) xs) ≡ Some p → i ≤ p)
    [ true ↦ λ same. grind arith | false ↦ λ later. let below : i + 1 ≤ p = behind later in omega arith ] in
    choice (test x) is

-- what stands at the first place is the first that passes
place_gets : {X : Type 0} (test : X → Bool) (i k : ℕ) (xs : List X) → position_from test i xs ≡ Some (i + k) → slice_get xs k ≡ find test xs
place_gets test i k [] is = refl
place_gets test i zero (x ∷ xs) is =
    let choice : (b : Bool) → cond b (Some i) (position_from test (i + 1) xs) ≡ Some (i + 0) → Some x ≡ cond b (Some x) (find test xs) =
    λ b. elim b as (λ c. cond c (Some i) (position_from test (i + 1) xs) ≡ Some (i + 0) → Some x ≡ cond c (Some x) (find test xs))
    [ true ↦ λ same. refl | false ↦ λ later. let below : i + 1 ≤ i + 0 = from_start test (i + 1) (i + 0) xs later in absurd (omega arith) ] in
    choice (test x) is
place_gets test i (suc k) (x ∷ xs) is =
    let rest = place_gets test (i + 1) k xs in
    let choice : (b : Bool) → cond b (Some i) (position_from test (i + 1) xs) ≡ Some (i + suc k) → slice_get xs k ≡ cond b (Some x) (find test xs) =
    λ b. elim b as (λ c. cond c (Some i) (position_from test (i + 1) xs) ≡ Some (i + suc k) → slice_get xs k ≡ cond c (Some x) (find test xs))
    [ true ↦ λ same. grind arith | false ↦ λ later. rest (later ∙ ap Some (omega arith)) ] in
    choice (test x) is

pub first_gets : {X : Type 0} (test : X → Bool) (k : ℕ) (xs : List X) → position_from test 0 xs ≡ Some k → slice_get xs k ≡ find test xs
first_gets test k xs is = place_gets test 0 k xs (is ∙ ap Some (omega arith))

pub first_none : {X : Type 0} (test : X → Bool) (i : ℕ) (xs : List X) → position_from test i xs ≡ None → find test xs ≡ None
first_none test i [] is = refl
first_none test i (x ∷ xs) is = let rest = first_none test (i + 1) xs in
    let choice : (b : Bool) → cond b (Some i) (position_from test (i + 1) xs) ≡ None → cond b (Some x) (find test xs) ≡ None =
    λ b. elim b as (λ c. cond c (Some i) (position_from test (i + 1) xs) ≡ None → cond c (Some x) (find test xs) ≡ None)
    [ true ↦ λ same. grind arith | false ↦ λ later. rest later ] in
    choice (test x) is
