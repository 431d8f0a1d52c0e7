-- Words and the numbers that they write stand for each other.
use Rattle.std.proofs.Common.{◌≡◌, refl, sym, ◌∙◌, ap, ℕ, zero, suc, ◌+◌, ◌-◌, ◌*◌, ◌^◌, ◌<◌, ◌≤◌, Bool, true, false, ◌&&◌, nat_le, if◌then◌else◌, List, [], ◌∷◌, length, get_or, decimal, Some, None, arith}
use Rattle.std.specs.List.{list_all, fold}
use Rattle.std.proofs.lemmas.Bool.Decides.{nat_tests}
use Rattle.std.proofs.lemmas.Str.Parse.{IsDigitsTest, FoldsDigits, IsNumeralModel, numerals_by_fold}
use Rattle.std.proofs.lemmas.Fmt.{digits_decimal, digits_value-decimal, decimal-digits_value, decimal_nonempty, first_decimal, decimal_digit}
use Rattle.ir_names.specs.Names.{is_digit, is_decimal, value_of}
use Rattle.source_runs.specs.Laws.{DecimalsAreRead, OnlyDecimalsAreRead}

digits_told : IsDigitsTest (λ ds. list_all is_digit ds ≡ true)
unfolding is_digit
digits_told = record {
  empty = refl;
  parts = λ c cs e. grind (arith, nat_tests);
  more = λ c cs k e. grind (arith, nat_tests);
}

values_fold : FoldsDigits (λ n ds. fold (λ value digit. value * 10 + (digit - 48)) n ds)
values_fold = record { empty = λ n. refl; more = λ n c cs k. refl }

pub numerals : IsNumeralModel (λ ds. list_all is_digit ds ≡ true) value_of
numerals = numerals_by_fold _ digits_told _ values_fold

decimal-of : (ds : List ℕ) → list_all is_digit ds ≡ true → 0 < length ds → (get_or ds 0 0 ≡ 48 → length ds ≡ 1) → is_decimal ds ≡ true
unfolding is_decimal
decimal-of [] all some lead = absurd (omega arith)
decimal-of (c ∷ []) all some lead = grind (arith, nat_tests)
decimal-of (c ∷ d ∷ ds) all some lead = grind (arith, nat_tests)

of-decimal : (ds : List ℕ) → is_decimal ds ≡ true → (list_all is_digit ds ≡ true) × (0 < length ds) × (get_or ds 0 0 ≡ 48 → length ds ≡ 1)
unfolding is_decimal
of-decimal [] is = absurd (cc)
of-decimal (c ∷ []) is = (grind (arith, nat_tests), omega arith, λ same. refl)
of-decimal (c ∷ d ∷ ds) is = (grind (arith, nat_tests), omega arith, λ same. grind (arith, nat_tests))

first_zero : (n : ℕ) → n < 2 ^ 64 → get_or (decimal n) 0 0 ≡ 48 → length (decimal n) ≡ 1
first_zero zero small is = ap length (decimal_digit 0 (omega arith))
first_zero (suc n) small is = absurd (omega (arith, first_decimal (suc n) (omega arith) small))

decimal-is_decimal : (n : ℕ) → n < 2 ^ 64 → is_decimal (decimal n) ≡ true
decimal-is_decimal n small = decimal-of (decimal n) (digits_decimal numerals n small) (decimal_nonempty n small) (first_zero n small)

number_of-at : (is within : Bool) (v n : ℕ) → is ≡ true → within ≡ true → v ≡ n → (if is && within then Some v else None) ≡ Some n
number_of-at is within v n a b c = cc

pub decimals_are_read : DecimalsAreRead
decimals_are_read most n below within =
    let small : n < 2 ^ 64 = omega arith in
    let value = digits_value-decimal numerals n small in
    number_of-at (is_decimal (decimal n)) (nat_le (value_of (decimal n)) most) (value_of (decimal n)) n
    (decimal-is_decimal n small) (ap (λ v. nat_le v most) value ∙ grind (arith, nat_tests)) value

of-number : (is within : Bool) (v n : ℕ) → (if is && within then Some v else None) ≡ Some n → (is ≡ true) × (within ≡ true) × (v ≡ n)
of-number true true v n e = (refl, refl, cc)
of-number true false v n e = absurd (cc)
of-number false within v n e = absurd (cc)

pub only_decimals_are_read : OnlyDecimalsAreRead
only_decimals_are_read most n word below e =
    let is = of-number (is_decimal word) (nat_le (value_of word) most) (value_of word) n e in
    let parts = of-decimal word is.0 in
    let within : value_of word ≤ most = grind (arith, nat_tests, is.1) in
    (omega (arith, within, is.2), sym (decimal-digits_value numerals word parts.0 parts.1 parts.2 (omega (arith, within, below))) ∙ ap decimal is.2)
