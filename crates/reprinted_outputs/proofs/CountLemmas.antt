-- A thin file has no more variables than there are numbers of nodes.
use Rattle.std.proofs.Common.{◌≡◌, ◌≢◌, refl, sym, ap, ◌∙◌, arith, ℕ, zero, suc, ◌+◌, ◌-◌, ◌*◌, ◌^◌, ◌<◌, ◌≤◌, true, not, nat_eq, List, [], ◌∷◌, length, map, get_or, filter, decimal, All, AllPairs, Contains}
use Rattle.std.specs.List.{list_all}
use Rattle.std.specs.Char.{is_ascii_digit}
use Rattle.std.proofs.lemmas.Bool.Decides.{nat_tests}
use Rattle.std.proofs.lemmas.Fmt.{decimal-digits_value}
use Rattle.std.proofs.lemmas.List.{length-map, get_or-map}
use Rattle.std.proofs.lemmas.List.Elements.{All-contains, All-head, All-tail, All-filter, All-map, filter_passes}
use Rattle.std.proofs.lemmas.List.Filters.{length-filter_both}
use Rattle.std.proofs.lemmas.List.Kept.{AllPairs-cons, AllPairs-filter}
use Rattle.std.proofs.lemmas.Str.Parse.{IsDigitsTest, FoldsDigits, IsNumeralModel, numerals_by_fold}
use Rattle.thin_files.specs.declared.thin.Variable.{Variable}
use Rattle.thin_files.specs.declared.thin.Node.{Node}
use Rattle.thin_files.specs.declared.thin.Thin.{Thin}
use Rattle.thin_files.specs.Thin.{AreDistinct, IsAllowed, IsNodeNumber, node_of, number_from, is_canonical}
use Rattle.thin_files.proofs.Determined.{one_item}

-- different numbers below n are n at most

abbrev Differ : List ℕ → Type 0
Differ = AllPairs (λ a b. a ≢ b)

abbrev equal_to : ℕ → List ℕ → List ℕ
equal_to n xs = filter (λ x. nat_eq x n) xs

not_twice : (n : ℕ) (xs : List ℕ) → Differ xs → 1 < length (equal_to n xs) → ⊥
not_twice n xs differ more =
    let passes = filter_passes (λ x. nat_eq x n) xs in
    let first : get_or (equal_to n xs) 0 0 ≡ n = grind (arith, nat_tests, passes 0 0 (omega arith)) in
    let next : get_or (equal_to n xs) 1 0 ≡ n = grind (arith, nat_tests, passes 1 0 more) in
    AllPairs-filter (λ a b. a ≢ b) (λ x. nat_eq x n) xs differ 0 1 0 (omega arith) more (first ∙ sym next)

equal_once : (n : ℕ) (xs : List ℕ) → Differ xs → length (equal_to n xs) ≤ 1
equal_once n xs differ = let twice = not_twice n xs differ in omega (arith, twice)

below_without : (n : ℕ) (xs : List ℕ) → All (λ x. x < suc n) xs → All (λ x. x < n) (filter (λ x. not (nat_eq x n)) xs)
below_without n xs below k d within =
    let less = All-filter (λ x. not (nat_eq x n)) (λ x. x < suc n) xs below k d within in
    let other = filter_passes (λ x. not (nat_eq x n)) xs k d within in
    grind (arith, nat_tests, less, other)

at_most : (n : ℕ) (xs : List ℕ) → All (λ x. x < n) xs → Differ xs → length xs ≤ n
at_most zero [] below differ = omega arith
at_most zero (x ∷ xs) below differ = absurd (omega (arith, All-head (λ y. y < 0) x xs below))
at_most (suc n) xs below differ =
    let others = filter (λ x. not (nat_eq x n)) xs in
    let rest = at_most n others (below_without n xs below) (AllPairs-filter (λ a b. a ≢ b) (λ x. not (nat_eq x n)) xs differ) in
    omega (arith, equal_once n xs differ, rest, length-filter_both (λ x. nat_eq x n) (λ x. not (nat_eq x n)) (λ x. refl) xs)

-- the digits of a node are those of its number

digits_told : IsDigitsTest (λ ds. list_all is_ascii_digit ds ≡ true)
digits_told = record {
  empty = refl;
  parts = λ c cs e. grind (arith, nat_tests);
  more = λ c cs k e. grind (arith, nat_tests);
}

folds : FoldsDigits number_from
folds = record {
  empty = λ n. refl;
  more = λ n c cs k. let e : 10 * n + (c - 48) ≡ n * 10 + (c - 48) = omega arith in ap (λ value. number_from value cs) e;
}

numerals : IsNumeralModel (λ ds. list_all is_ascii_digit ds ≡ true) (number_from 0)
numerals = numerals_by_fold _ digits_told number_from folds

canonical : (ds : List ℕ) → is_canonical ds ≡ true
    → (list_all is_ascii_digit ds ≡ true) × (0 < length ds) × (get_or ds 0 0 ≡ 48 → length ds ≡ 1)
canonical [] is = absurd (cc)
canonical (c ∷ []) is = (grind (arith, nat_tests), omega arith, λ same. refl)
canonical (c ∷ d ∷ ds) is = (grind (arith, nat_tests), omega arith, λ same. grind (arith, nat_tests))

written : (ds : List ℕ) → IsNodeNumber ds → decimal (number_from 0 ds) ≡ ds
written ds is =
    let parts = canonical ds is.0 in
    decimal-digits_value numerals ds parts.0 parts.1 parts.2 (omega (arith, is.1))

one_number : (a b : List ℕ) → IsNodeNumber a → IsNodeNumber b → number_from 0 a ≡ number_from 0 b → a ≡ b
one_number a b of_a of_b same = sym (written a of_a) ∙ ap decimal same ∙ written b of_b

-- the numbers that variables name differ

abbrev number_of : Variable → ℕ
number_of v = number_from 0 v.node

abbrev IsNamed : List Node → Variable → Type 0
IsNamed nodes v = Contains nodes (node_of v)

numbered : (nodes : List Node) → All (λ n. IsNodeNumber n.number) nodes → (v : Variable) → IsNamed nodes v → IsNodeNumber v.node
numbered nodes numbers v named = All-contains (λ (n : Node). IsNodeNumber n.number) nodes (node_of v) numbers named

one_id : (nodes : List Node) → All (λ n. IsNodeNumber n.number) nodes → AreDistinct (map (λ n. n.number) nodes) → (v w : Variable)
    → IsNamed nodes v → IsNamed nodes w → number_of v ≡ number_of w → v.id ≡ w.id
one_id nodes numbers once v w named other same =
    ap (λ (n : Node). n.id) (one_item (λ n. n.number) nodes once (node_of v) (node_of w) named other
    (one_number v.node w.node (numbered nodes numbers v named) (numbered nodes numbers w other) same))

numbers_differ : (nodes : List Node) → All (λ n. IsNodeNumber n.number) nodes → AreDistinct (map (λ n. n.number) nodes)
    → (vs : List Variable) → All (IsNamed nodes) vs → AreDistinct (map (λ v. v.id) vs) → Differ (map number_of vs)
numbers_differ nodes numbers once [] named apart = λ i j d before within. absurd (omega (arith, within))
numbers_differ nodes numbers once (v ∷ vs) named apart =
    AllPairs-cons (λ a b. a ≢ b) (number_of v) (map number_of vs)
    (All-map (λ n. number_of v ≢ n) number_of vs (λ k d within same.
    apart 0 (suc k) d.id (omega arith) (omega (arith, within, length-map vs (λ w. w.id)))
    (one_id nodes numbers once v (get_or vs k d) (All-head (IsNamed nodes) v vs named) (named (suc k) d (omega (arith, within))) same
    ∙ sym (get_or-map (λ w. w.id) vs k d d.id (omega (arith, within))))))
    (numbers_differ nodes numbers once vs (All-tail (IsNamed nodes) v vs named)
    (λ i j d before within. apart (suc i) (suc j) d (omega (arith, before)) (omega (arith, within))))

numbers_below : (t : Thin) → IsAllowed t → All (λ n. n < 2 ^ 32) (map number_of t.variables)
numbers_below t allowed =
    All-map (λ n. n < 2 ^ 32) number_of t.variables
    (λ k d within. (numbered t.nodes allowed.numbers (get_or t.variables k d) (allowed.named k d within)).1)

pub few_variables : (t : Thin) → IsAllowed t → length t.variables ≤ 2 ^ 32
few_variables t allowed =
    let differ = numbers_differ t.nodes allowed.numbers allowed.once t.variables allowed.named allowed.apart in
    let few = at_most (2 ^ 32) (map number_of t.variables) (numbers_below t allowed) differ in
    omega (arith, few, length-map t.variables number_of)
