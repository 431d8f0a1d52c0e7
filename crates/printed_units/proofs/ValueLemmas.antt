-- What the bytes of printed names and numbers say.
use Rattle.std.proofs.Common.{◌≡◌, refl, ap, ℕ, zero, suc, ◌+◌, ◌-◌, ◌*◌, ◌^◌, ◌<◌, ◌≤◌, true, false, ◌&&◌, ◌||◌, nat_eq, nat_lt, List, [], ◌∷◌, ◌++◌, length, take, get_or, slice_index, decimal, Some, length-append, arith, inl, inr}
use Rattle.std.specs.List.{list_all}
use Rattle.std.specs.Char.{is_ascii_digit}
use Rattle.std.specs.Str.Parse.{digits_value}
use Rattle.std.proofs.Math.Nat.{mod-eq_of_lt}
use Rattle.std.proofs.Math.Seq.{take-append_seam}
use Rattle.std.proofs.lemmas.Bool.Decides.{nat_tests}
use Rattle.std.proofs.lemmas.Fmt.{digits_decimal, digits_value-decimal, decimal_nonempty, first_decimal, decimal_digit}
use Rattle.std.proofs.lemmas.Str.Parse.{IsDigitsTest, IsNumeralModel, numerals_by_value}
use Rattle.ir_lex.specs.declared.token.Kind.TheVariants.{Global, Local, Label, Bytes, Number}
use Rattle.ir_lex.specs.Names.{is_number, either_name, bare_name, without_zeros}
use Rattle.ir_values.specs.declared.types.Width.{Width}
use Rattle.ir_values.specs.declared.types.Width.TheVariants.{W1, W8, W16, W32, W64}
use Rattle.ir_values.specs.declared.types.Ty.TheVariants as ty
use Rattle.ir_values.specs.declared.constants.Const.TheVariants as const
use Rattle.ir_numbers.specs.Numbers.{bits}
use Rattle.unit_grammar.specs.Pieces.{Piece}
use Rattle.unit_grammar.specs.Signs.{name}
use Rattle.unit_grammar.proofs.BoolLemmas.{and_both, or_either, test}
use Rattle.type_grammar.specs.Numbers.{is_negative, magnitude, length_of, int_of}
use Rattle.type_grammar.specs.Names.{number_at}
use Rattle.type_grammar.specs.Left.{offset_of}
use Rattle.type_grammar.specs.declared.bare.Bare.TheVariants.{Plain}
use Rattle.type_grammar.specs.Constants.{word_constant}
use Rattle.type_grammar.proofs.NumberLemmas.{below_some}
use Rattle.ir_names.specs.Names as printed
use Rattle.ir_names.specs.Names.{is_digit, is_name_start, is_bare, is_decimal, name_text, global_text, local_text}
use Rattle.ir_print.specs.Constants.{bytes_text}
use Rattle.ir_names.specs.Numbers.{signed_text, integer_text}
use Rattle.printed_units.specs.Written.{IsBytes, IsName}
use Rattle.printed_units.specs.Printing.{integer_kind}
use Rattle.printed_units.proofs.NameLemmas.{unquoted_quoted}

-- names

digits_first : (name : List ℕ) → is_decimal name ≡ true → (nat_eq (slice_index name 0) 34 ≡ false) × (bare_name name ≡ name)
unfolding is_decimal is_digit without_zeros
digits_first [] is = absurd cc
digits_first (c ∷ []) is = (grind (arith, nat_tests), grind (arith, nat_tests))
digits_first (c ∷ d ∷ ds) is = (grind (arith, nat_tests), grind (arith, nat_tests))

bare_first : (name : List ℕ) → is_bare name ≡ true → (nat_eq (slice_index name 0) 34 ≡ false) × (bare_name name ≡ name)
unfolding is_bare is_name_start
bare_first [] is = absurd cc
bare_first (c ∷ cs) is = (grind (arith, nat_tests), grind (arith, nat_tests))

plain_named : (name : List ℕ) → (nat_eq (slice_index name 0) 34 ≡ false) × (bare_name name ≡ name) → either_name name ≡ name
plain_named name (first, same) = rw first same

-- what a printed name says
named : (name : List ℕ) → IsName name → either_name (name_text name) ≡ name
unfolding name_text printed.is_number
named name is = test (is_bare name || printed.is_number name)
    (λ plain. rw plain (elim (or_either (is_bare name) (printed.is_number name) plain) [
      | inl bare ↦ plain_named name (bare_first name bare)
      | inr number ↦ plain_named name (digits_first name (and_both (is_decimal name) _ (and_both (is_decimal name && _) _ number).0).0)
    ]))
    (λ other. rw other (unquoted_quoted name is.bytes))

pub global_named : (t : Piece) (text : List ℕ) → IsName text → t.bytes ≡ global_text text → name Global t ≡ text
global_named t text is bytes = rw bytes (named text is)

pub local_named : (t : Piece) (text : List ℕ) → IsName text → t.bytes ≡ local_text text → name Local t ≡ text
local_named t text is bytes = rw bytes (named text is)

before_last : (bytes : List ℕ) (b : ℕ) → take (length (bytes ++ b ∷ []) - 1) (bytes ++ b ∷ []) ≡ bytes
before_last bytes b =
    let end : length (bytes ++ b ∷ []) - 1 ≡ length bytes = omega (arith, length-append bytes (b ∷ [])) in
    rw end (take-append_seam bytes (b ∷ []))

pub label_named : (t : Piece) (text : List ℕ) → IsName text → t.bytes ≡ name_text text ++ 58 ∷ [] → name Label t ≡ text
label_named t text is bytes = rw (bytes, before_last (name_text text) 58) (named text is)

pub bytes_named : (t : Piece) (text : List ℕ) → IsBytes text → t.bytes ≡ bytes_text text → name Bytes t ≡ text
bytes_named t text is bytes = rw bytes (unquoted_quoted text is)

-- decimals

digits_told : IsDigitsTest (λ ds. list_all is_ascii_digit ds ≡ true)
digits_told = record {
  empty = refl;
  parts = λ c cs e. grind (arith, nat_tests);
  more = λ c cs k e. grind (arith, nat_tests);
}

numerals : IsNumeralModel (λ ds. list_all is_ascii_digit ds ≡ true) (digits_value 10)
numerals = numerals_by_value _ digits_told

no_sign : (ds : List ℕ) → list_all is_ascii_digit ds ≡ true → is_negative ds ≡ false
no_sign [] all = refl
no_sign (d ∷ ds) all = grind (arith, nat_tests)

magnitude_said : (n : ℕ) → n < 2 ^ 64 → magnitude (decimal n) ≡ Some n
magnitude_said n small =
    let digits = digits_decimal numerals n small in
    let value = digits_value-decimal numerals n small in
    rw (no_sign (decimal n) digits, digits, value) (below_some n small)

negative_said : (n : ℕ) → n < 2 ^ 64 → magnitude (45 ∷ decimal n) ≡ Some n
negative_said n small =
    let digits = digits_decimal numerals n small in
    let value = digits_value-decimal numerals n small in
    rw (digits, value) (below_some n small)

pub length_said : (n : ℕ) → n < 2 ^ 64 → length_of (decimal n) ≡ Some n
length_said n small = rw (magnitude_said n small, no_sign (decimal n) (digits_decimal numerals n small)) refl

-- integers

-- the signed decimal of a number below `2 * half`
signed_said : (width : Width) (half n : ℕ) → 2 ^ bits width ≡ 2 * half → 2 ^ (bits width - 1) ≡ half → half ≤ 2 ^ 63 → n < 2 * half →
    int_of width (signed_text half n) ≡ Some n
signed_said width half n all most wide small = test (nat_lt n half)
    (λ below. rw below (plain (grind (arith, nat_tests))))
    (λ other. rw other (negative (2 * half - n) (grind (arith, nat_tests)) (omega arith)))
  where
    plain : n < half → int_of width (decimal n) ≡ Some n
    plain below =
        let fits : nat_lt n (2 * half) ≡ true = grind (arith, nat_tests) in
        rw (magnitude_said n (omega arith), no_sign (decimal n) (digits_decimal numerals n (omega arith)), all, fits) refl

    negative : (m : ℕ) → m ≤ half → m + n ≡ 2 * half → int_of width (45 ∷ decimal m) ≡ Some n
    negative m within sum =
        let not_more : nat_lt half m ≡ false = grind (arith, nat_tests) in
        let rest : 2 * half - m ≡ n = omega arith in
        rw (negative_said m (omega arith), most, all, not_more, rest, mod-eq_of_lt small) refl

-- an integer that is no truth value
integer_said : (width : Width) (value : ℕ) → integer_kind width ≡ Number → value < 2 ^ bits width →
    int_of width (integer_text width value) ≡ Some value
unfolding integer_text
integer_said W1 value kind small = absurd cc
integer_said W8 value kind small = rw (mod-eq_of_lt small) (signed_said W8 (2 ^ 7) value refl refl (omega arith) small)
integer_said W16 value kind small = rw (mod-eq_of_lt small) (signed_said W16 (2 ^ 15) value refl refl (omega arith) small)
integer_said W32 value kind small = rw (mod-eq_of_lt small) (signed_said W32 (2 ^ 31) value refl refl (omega arith) small)
integer_said W64 value kind small = rw (mod-eq_of_lt small) (signed_said W64 (2 ^ 63) value refl refl (omega arith) small)

pub number_said : (width : Width) (value : ℕ) → integer_kind width ≡ Number → value < 2 ^ bits width →
    number_at (ty.Int width) (integer_text width value) ≡ const.Int width value
number_said width value kind small = rw (integer_said width value kind small) refl

-- a truth value, which is a word
pub truth_said : (value : ℕ) → value < 2 → word_constant (integer_text W1 value) ≡ Plain (const.Int W1 value)
unfolding integer_text
truth_said zero small = refl
truth_said (suc zero) small = refl
truth_said (suc (suc value)) small = absurd (omega arith)

-- offsets

first_zero : (n : ℕ) → n < 2 ^ 64 → get_or (decimal n) 0 0 ≡ 48 → length (decimal n) ≡ 1
first_zero zero small is = ap length (decimal_digit 0 (omega arith))
first_zero (suc n) small is = absurd (omega (arith, first_decimal (suc n) (omega arith) small))

lead : (ds : List ℕ) → list_all is_ascii_digit ds ≡ true → 0 < length ds → (get_or ds 0 0 ≡ 48 → length ds ≡ 1) → is_number ds ≡ true
lead [] all some zero_alone = absurd (omega arith)
lead (c ∷ []) all some zero_alone = grind (arith, nat_tests)
lead (c ∷ d ∷ ds) all some zero_alone = grind (arith, nat_tests)

decimal_is_number : (n : ℕ) → n < 2 ^ 64 → is_number (decimal n) ≡ true
decimal_is_number n small = lead (decimal n) (digits_decimal numerals n small) (decimal_nonempty n small) (first_zero n small)

pub offset_said : (offset : ℕ) → 0 < offset → offset < 2 ^ 64 → offset_of (integer_text W64 offset) ≡ Some offset
unfolding integer_text
offset_said offset some small = rw (mod-eq_of_lt small) (test (nat_lt offset (2 ^ 63))
    (λ below. rw below (plain below))
    (λ other. rw other (negative (2 * 2 ^ 63 - offset) (grind (arith, nat_tests)) (omega arith) (omega arith))))
  where
    not_none : (n : ℕ) → 0 < n → nat_eq n 0 ≡ false
    not_none n h = grind (arith, nat_tests)

    plain : nat_lt offset (2 ^ 63) ≡ true → offset_of (decimal offset) ≡ Some offset
    plain below =
        rw (magnitude_said offset small, no_sign (decimal offset) (digits_decimal numerals offset small), decimal_is_number offset small, not_none offset some, below)
        refl

    negative : (m : ℕ) → m ≤ 2 ^ 63 → m + offset ≡ 2 ^ 64 → 0 < m → offset_of (45 ∷ decimal m) ≡ Some offset
    negative m within sum more =
        let not_more : nat_lt (2 ^ 63) m ≡ false = grind (arith, nat_tests) in
        let rest : 2 ^ 64 - m ≡ offset = omega arith in
        rw (decimal_is_number m (omega arith), negative_said m (omega arith), not_none m more, not_more, rest) refl
