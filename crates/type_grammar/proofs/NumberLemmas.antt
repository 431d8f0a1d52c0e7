use Rattle.std.proofs.Common.{◌≡◌, ℕ, suc, ◌+◌, ◌*◌, ◌^◌, ◌<◌, ◌≤◌, not, ◌&&◌, ◌||◌, nat_eq, List, [], ◌∷◌, length, slice_index, drop, add-one, subst, Some, None, refl, sym, arith}
use Rattle.std.proofs.lemmas.Bool.Decides.{nat_tests}
use Rattle.std.proofs.Math.Seq.{drop-cons}
use Rattle.std.specs.Str.Parse.{digits_value, digits_value_after}
use Rattle.std.specs.Char.{is_ascii_digit, digit_value}
use Rattle.std.specs.List.{list_all}
use Rattle.ir_lex.specs.Names.{is_number}
use Rattle.type_grammar.specs.Numbers.{below_64}

same_test : (n : ℕ) → nat_eq n 0 ≡ nat_eq (n + 1) 1
same_test n = grind (arith, nat_tests)

pub is_number_by : (bs : List ℕ) → 0 < length bs →
    is_number bs ≡ (list_all is_ascii_digit bs && (not (nat_eq (slice_index bs 0) 48) || nat_eq (length bs) 1))
is_number_by [] h = absurd (omega arith)
is_number_by (b ∷ bs) h = rw (same_test (length bs), add-one) refl

-- more digits make no smaller number
pub digits_grow : (n : ℕ) (ds : List ℕ) → n ≤ digits_value_after 10 n ds
digits_grow n [] = omega arith
digits_grow n (d ∷ ds) = let more = digits_grow (n * 10 + digit_value d) ds in omega arith

pub below_none : (m n : ℕ) → m ≤ n → None ≡ below_64 m → below_64 n ≡ None
below_none m n h e = grind (arith, nat_tests)

pub below_some : (n : ℕ) → n < 2 ^ 64 → below_64 n ≡ Some n
below_some n h = grind (arith, nat_tests)

-- a number that is too large already is too large with all its digits
pub overflow_at : (bs : List ℕ) (i value : ℕ) → i < length bs → digits_value_after 10 value (drop i bs) ≡ digits_value 10 bs →
    None ≡ below_64 (value * 10 + digit_value (slice_index bs i)) → None ≡ below_64 (digits_value 10 bs)
overflow_at bs i value h whole none =
    let next = drop-cons bs i 0 h in
    let whole' = rw next at whole in
    let grows = digits_grow (value * 10 + digit_value (slice_index bs i)) (drop (suc i) bs) in
    let more : value * 10 + digit_value (slice_index bs i) ≤ digits_value 10 bs =
    subst (λ (z : ℕ). value * 10 + digit_value (slice_index bs i) ≤ z) whole' grows in
    sym (below_none _ _ more none)
