-- What tokens look like: bytes that go on, and perhaps a quoted text behind them.
use Rattle.std.proofs.Common.{◌≡◌, ℕ, Bool, true, false, not, ◌==◌, inl, inr, List, [], ◌∷◌, ◌++◌, codes, refl, ap, sym, ◌∙◌, append_assoc}
use Rattle.std.specs.List.{list_all}
use Rattle.std.proofs.lemmas.List.Folds.{list_all-append}
use Rattle.std.specs.Char.{is_ascii_digit, is_ascii_hexdigit}
use Rattle.ir_lex.specs.declared.token.Kind.{Kind}
use Rattle.ir_lex.specs.declared.token.Kind.TheVariants.{Word, Label, Global, Local, Comdat, Meta, MetaText, Group, SummaryNumber, HashWord, Number, Float, Quoted, Bytes, Mark, Dots}
use Rattle.ir_lex.specs.Letters.{is_of, is_word_start, is_word_byte, is_name_start, is_name_byte, is_meta_start, is_meta_byte}
use Rattle.ir_lex.specs.Languages.{IsOne, IsByte, IsMany, IsThen, IsEither, IsMaybe, IsRun}
use Rattle.ir_lex.specs.Kinds.{IsDigits, IsWord, IsQuoted, IsQuotedName, IsName, IsExponent, IsDecimal, IsHex, Is, row}
use Rattle.ir_lex.proofs.CaseSplits.{test}
use Rattle.ir_lex.proofs.KindLaws.{apart_of, IsDecimals, IsFraction, IsHexDigits}

-- blanks, and the marks that printed modules have; with the quote and the colon they go on with no token
abbrev pub parting : List ℕ
parting = 32 ∷ 9 ∷ 13 ∷ 10 ∷ codes "=,(){}[]<>*"

abbrev outer : List ℕ
outer = 34 ∷ 58 ∷ parting

abbrev pub inner : ℕ → Bool
inner b = not (is_of outer b)

abbrev Bare : (List ℕ → Type 0) → Type 0
Bare P = (bytes : List ℕ) → P bytes → list_all inner bytes ≡ true

abbrev pub IsShape : List ℕ → Type 0
IsShape = IsEither (IsMany inner) (IsThen (IsMany inner) IsQuoted)

abbrev Shaped : (List ℕ → Type 0) → Type 0
Shaped P = (bytes : List ℕ) → P bytes → IsShape bytes

-- without quotes

passes : (q : ℕ → Bool) → list_all (λ b. not (q b)) outer ≡ true → (b : ℕ) → q b ≡ true → inner b ≡ true
passes q all b t = let e = apart_of outer q all b t in rw e refl

bare_one : (q : ℕ → Bool) → list_all (λ b. not (q b)) outer ≡ true → Bare (IsOne q)
bare_one q all (b ∷ []) is = let e = passes q all b is in rw e refl
bare_one q all _ is = absurd is

bare_many : (q : ℕ → Bool) → list_all (λ b. not (q b)) outer ≡ true → Bare (IsMany q)
bare_many q all [] is = refl
bare_many q all (b ∷ bytes) is =
    test (q b)
    (λ t. let h = rw t at is in let e = passes q all b t in rw e (bare_many q all bytes h))
    (λ t. absurd (let h = rw t at is in cc))

bare_joined : (front back : List ℕ) → list_all inner front ≡ true → list_all inner back ≡ true → list_all inner (front ++ back) ≡ true
bare_joined front back e d = rw (list_all-append inner front back, e, d) refl

bare_then : (P Q : List ℕ → Type 0) → Bare P → Bare Q → Bare (IsThen P Q)
bare_then P Q p q bytes is = rw is.joined (bare_joined is.front is.back (p is.front is.first) (q is.back is.second))

bare_maybe : (P : List ℕ → Type 0) → Bare P → Bare (IsMaybe P)
bare_maybe P p bytes (inl none) = rw none refl
bare_maybe P p bytes (inr is) = p bytes is

bare_run : (p q : ℕ → Bool) → list_all (λ b. not (p b)) outer ≡ true → list_all (λ b. not (q b)) outer ≡ true → Bare (IsRun p q)
bare_run p q a b = bare_then (IsOne p) (IsMany q) (bare_one p a) (bare_many q b)

bare_digits : Bare IsDigits
bare_digits = bare_run is_ascii_digit is_ascii_digit refl refl

pub bare_word : Bare IsWord
bare_word = bare_run is_word_start is_word_byte refl refl

bare_behind : (c : ℕ) (Q : List ℕ → Type 0) → list_all (λ b. not (b == c)) outer ≡ true → Bare Q → Bare (IsThen (IsByte c) Q)
bare_behind c Q all q = bare_then (IsByte c) Q (bare_one (λ b. b == c) all) q

bare_sign : Bare (IsMaybe (IsOne (is_of (codes "-+"))))
bare_sign = bare_maybe (IsOne (is_of (codes "-+"))) (bare_one (is_of (codes "-+")) refl)

pub bare_number : Bare (Is Number)
bare_number = bare_then (IsMaybe (IsByte 45)) IsDigits (bare_maybe (IsByte 45) (bare_one (λ b. b == 45) refl)) bare_digits

bare_exponent : Bare IsExponent
bare_exponent = bare_then (IsOne (is_of (codes "eE"))) (IsThen (IsMaybe (IsOne (is_of (codes "-+")))) IsDigits) (bare_one (is_of (codes "eE")) refl)
    (bare_then (IsMaybe (IsOne (is_of (codes "-+")))) IsDigits bare_sign bare_digits)

bare_fraction : Bare IsFraction
bare_fraction = bare_behind 46 IsDecimals refl
    (bare_then (IsMany is_ascii_digit) (IsMaybe IsExponent) (bare_many is_ascii_digit refl) (bare_maybe IsExponent bare_exponent))

bare_decimal : Bare IsDecimal
bare_decimal = bare_then (IsMaybe (IsOne (is_of (codes "-+")))) (IsThen IsDigits IsFraction) bare_sign
    (bare_then IsDigits IsFraction bare_digits bare_fraction)

bare_hex_digits : Bare IsHexDigits
bare_hex_digits = bare_then (IsMaybe (IsOne (is_of (codes "HKLMR")))) (IsRun is_ascii_hexdigit is_ascii_hexdigit)
    (bare_maybe (IsOne (is_of (codes "HKLMR"))) (bare_one (is_of (codes "HKLMR")) refl)) (bare_run is_ascii_hexdigit is_ascii_hexdigit refl refl)

bare_hex : Bare IsHex
bare_hex = bare_behind 48 (IsThen (IsByte 120) IsHexDigits) refl (bare_behind 120 IsHexDigits refl bare_hex_digits)

-- with a quoted text at the end

shaped_bare : (P : List ℕ → Type 0) → Bare P → Shaped P
shaped_bare P p bytes is = inl (p bytes is)

shaped_quoted : Shaped IsQuoted
shaped_quoted bytes is = inr (record { front = []; back = bytes; first = refl; second = is; joined = refl })

shaped_named : Shaped IsQuotedName
shaped_named bytes is = shaped_quoted bytes is.0

shaped_then : (P Q : List ℕ → Type 0) → Bare P → Shaped Q → Shaped (IsThen P Q)
shaped_then P Q p q bytes is = elim (q is.back is.second) [
  | inl bare ↦ inl (rw is.joined (bare_joined is.front is.back (p is.front is.first) bare))
  | inr more ↦ inr (record {
    front = is.front ++ more.front;
    back = more.back;
    first = bare_joined is.front more.front (p is.front is.first) more.first;
    second = more.second;
    joined = is.joined ∙ ap (λ back. is.front ++ back) more.joined ∙ sym (append_assoc is.front more.front more.back);
  })
]

shaped_either : (P Q : List ℕ → Type 0) → Shaped P → Shaped Q → Shaped (IsEither P Q)
shaped_either P Q p q bytes (inl is) = p bytes is
shaped_either P Q p q bytes (inr is) = q bytes is

shaped_behind : (c : ℕ) (Q : List ℕ → Type 0) → list_all (λ b. not (b == c)) outer ≡ true → Shaped Q → Shaped (IsThen (IsByte c) Q)
shaped_behind c Q all q = shaped_then (IsByte c) Q (bare_one (λ b. b == c) all) q

shaped_run : (p q : ℕ → Bool) → list_all (λ b. not (p b)) outer ≡ true → list_all (λ b. not (q b)) outer ≡ true → Shaped (IsRun p q)
shaped_run p q a b = shaped_bare (IsRun p q) (bare_run p q a b)

shaped_digits : Shaped IsDigits
shaped_digits = shaped_bare IsDigits bare_digits

shaped_name : Shaped IsName
shaped_name = shaped_either (IsRun is_name_start is_name_byte) (IsEither IsDigits IsQuotedName) (shaped_run is_name_start is_name_byte refl refl)
    (shaped_either IsDigits IsQuotedName shaped_digits shaped_named)

-- what stands before a label's colon
pub shaped_label : Shaped (IsEither (IsRun is_name_byte is_name_byte) IsQuotedName)
shaped_label = shaped_either (IsRun is_name_byte is_name_byte) IsQuotedName (shaped_run is_name_byte is_name_byte refl refl) shaped_named

-- every kind but labels, which end with a colon, and marks
pub shaped : (j : Kind) → (row j == 1) ≡ false → (row j == 14) ≡ false → Shaped (Is j)
shaped Word no_label no_mark = shaped_bare IsWord bare_word
shaped Label no_label no_mark = absurd cc
shaped Global no_label no_mark = shaped_behind 64 IsName refl shaped_name
shaped Local no_label no_mark = shaped_behind 37 IsName refl shaped_name
shaped Comdat no_label no_mark = shaped_behind 36 (IsEither (IsRun is_name_start is_name_byte) IsQuoted) refl
    (shaped_either (IsRun is_name_start is_name_byte) IsQuoted (shaped_run is_name_start is_name_byte refl refl) shaped_quoted)
shaped Meta no_label no_mark = shaped_behind 33 (IsEither (IsRun is_meta_start is_meta_byte) IsDigits) refl
    (shaped_either (IsRun is_meta_start is_meta_byte) IsDigits (shaped_run is_meta_start is_meta_byte refl refl) shaped_digits)
shaped MetaText no_label no_mark = shaped_behind 33 IsQuoted refl shaped_quoted
shaped Group no_label no_mark = shaped_behind 35 IsDigits refl shaped_digits
shaped SummaryNumber no_label no_mark = shaped_behind 94 IsDigits refl shaped_digits
shaped HashWord no_label no_mark = shaped_behind 35 IsWord refl (shaped_bare IsWord bare_word)
shaped Number no_label no_mark = shaped_bare (Is Number) bare_number
shaped Float no_label no_mark = shaped_either IsDecimal IsHex (shaped_bare IsDecimal bare_decimal) (shaped_bare IsHex bare_hex)
shaped Quoted no_label no_mark = shaped_quoted
shaped Bytes no_label no_mark = shaped_behind 99 IsQuoted refl shaped_quoted
shaped Mark no_label no_mark = absurd cc
shaped Dots no_label no_mark = shaped_bare (IsThen (IsByte 46) (IsThen (IsByte 46) (IsByte 46)))
    (bare_behind 46 (IsThen (IsByte 46) (IsByte 46)) refl (bare_behind 46 (IsByte 46) refl (bare_one (λ b. b == 46) refl)))
