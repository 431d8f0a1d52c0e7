-- Names, numbers and texts of bytes, as they are printed and as they are tokens.
use Rattle.std.proofs.Common.{◌≡◌, ℕ, zero, suc, ◌+◌, ◌-◌, ◌*◌, ◌/◌, ◌%◌, ◌^◌, ◌<◌, Bool, true, false, not, ◌&&◌, ◌||◌, ◌==◌, nat_lt, nat_le, inl, inr, List, [], ◌∷◌, ◌++◌, length, take, flat_map, codes, decimal, refl, sym, ap, ◌∙◌, arith, length-append}
use Rattle.std.specs.List.{list_all}
use Rattle.std.specs.Char.{is_ascii_digit, is_ascii_hexdigit, digit_value}
use Rattle.std.specs.Fmt.{digit_glyph, digits_onto, digits}
use Rattle.std.proofs.Math.Seq.{take-append_seam}
use Rattle.std.proofs.lemmas.Bool.Decides.{nat_tests}
use Rattle.std.proofs.lemmas.List.Folds.{list_all-append}
use Rattle.ir_lex.specs.declared.token.Kind.TheVariants.{Word, Label, Global, Local, Number, Bytes}
use Rattle.ir_lex.specs.Letters as letters
use Rattle.ir_lex.specs.Names.{unquoted, unescaped, unescaped_from}
use Rattle.ir_lex.specs.Names as lex
use Rattle.ir_lex.specs.Languages.{IsOne, IsEither, IsRun}
use Rattle.ir_lex.specs.Kinds.{IsDigits, IsQuoted, IsQuotedName}
use Rattle.ir_lex.specs.Kinds as kinds
use Rattle.ir_lex.proofs.CaseSplits.{test}
use Rattle.unit_grammar.proofs.BoolLemmas.{and_both, and_true, is_false, not_both}
use Rattle.ir_values.specs.declared.types.Width.{Width}
use Rattle.ir_values.specs.declared.types.Width.TheVariants.{W1, W8, W16, W32, W64}
use Rattle.ir_names.specs.Names.{is_digit, is_name_start, is_name_byte, is_bare, is_decimal, value_of, is_number, is_plain, escape, quoted, name_text, global_text, local_text}
use Rattle.ir_names.specs.Numbers.{signed_text, truth_text, integer_text}
use Rattle.ir_print.specs.Constants.{bytes_text}
use Rattle.printed_tokens.specs.Atoms.{IsToken}
use Rattle.printed_tokens.proofs.AtomLemmas.{word_token}
use Rattle.printed_units.specs.Written.{IsBytes, IsName}
use Rattle.printed_units.specs.Printing.{integer_kind}

-- digits

run_is : (p q : ℕ → Bool) (b : ℕ) (bytes : List ℕ) → p b ≡ true → list_all q bytes ≡ true → IsRun p q (b ∷ bytes)
run_is p q b bytes e f = record { front = b ∷ []; back = bytes; first = e; second = f; joined = refl }

digit_ascii : (upper : Bool) (n : ℕ) → n < 10 → is_ascii_digit (digit_glyph upper n) ≡ true
digit_ascii upper n small = grind (arith, nat_tests)

-- digits before other digits
onto_digits : (k n b : ℕ) (bytes : List ℕ) → is_ascii_digit b ≡ true → list_all is_ascii_digit bytes ≡ true
    → IsDigits (digits_onto k 10 false n (b ∷ bytes))
onto_digits zero n b bytes e f = run_is is_ascii_digit is_ascii_digit b bytes e f
onto_digits (suc k) n b bytes e f =
    let c = digit_glyph false (n % 10) in
    let is : is_ascii_digit c ≡ true = digit_ascii false (n % 10) (omega arith) in
    let both : list_all is_ascii_digit (b ∷ bytes) ≡ true = and_true (is_ascii_digit b) (list_all is_ascii_digit bytes) e f in
    test (n / 10 == 0)
    (λ t. rw t (run_is is_ascii_digit is_ascii_digit c (b ∷ bytes) is both))
    (λ t. rw t (onto_digits k (n / 10) c (b ∷ bytes) is both))

decimal_digits : (n : ℕ) → IsDigits (decimal n)
unfolding digits
decimal_digits n =
    let c = digit_glyph false (n % 10) in
    let is : is_ascii_digit c ≡ true = digit_ascii false (n % 10) (omega arith) in
    test (n / 10 == 0)
    (λ t. rw t (run_is is_ascii_digit is_ascii_digit c [] is refl))
    (λ t. rw t (onto_digits 63 (n / 10) c [] is refl))

pub number_token : (n : ℕ) → IsToken Number (decimal n)
number_token n = record {
  printed = refl;
  is = record { front = []; back = decimal n; first = inl refl; second = decimal_digits n; joined = refl };
  plain = refl;
}

minus_token : (n : ℕ) → IsToken Number (45 ∷ decimal n)
minus_token n = record {
  printed = refl;
  is = record { front = 45 ∷ []; back = decimal n; first = inr refl; second = decimal_digits n; joined = refl };
  plain = refl;
}

signed_token : (half n : ℕ) → IsToken Number (signed_text half n)
signed_token half n =
    test (nat_lt n half) (λ t. rw t (number_token n)) (λ t. rw t (minus_token (2 * half - n)))

truth_token : (n : ℕ) → IsToken Word (truth_text n)
truth_token n =
    test (n == 0) (λ t. rw t (word_token (codes "false") refl)) (λ t. rw t (word_token (codes "true") refl))

pub integer_token : (width : Width) (value : ℕ) → IsToken (integer_kind width) (integer_text width value)
unfolding integer_text
integer_token W1 value = truth_token (value % 2)
integer_token W8 value = signed_token (2 ^ 7) (value % 2 ^ 8)
integer_token W16 value = signed_token (2 ^ 15) (value % 2 ^ 16)
integer_token W32 value = signed_token (2 ^ 31) (value % 2 ^ 32)
integer_token W64 value = signed_token (2 ^ 63) (value % 2 ^ 64)

-- escapes

record IsGlyph (c n : ℕ) : Type 0 where
  hex : is_ascii_hexdigit c ≡ true
  value : digit_value c ≡ n
  inside : not (c == 34) ≡ true
  other : (c == 92) ≡ false

glyph_is : (n : ℕ) → n < 16 → IsGlyph (digit_glyph true n) n
glyph_is n small = record {
  hex = grind (arith, nat_tests);
  value = grind (arith, nat_tests);
  inside = grind (arith, nat_tests);
  other = grind (arith, nat_tests);
}

escaped_byte : (c d n m : ℕ) (rest : List ℕ) → IsGlyph c n → IsGlyph d m → unescaped_from 0 (92 ∷ c ∷ d ∷ rest) ≡ (16 * n + m) ∷ unescaped_from 0 rest
escaped_byte c d n m rest first second =
    rw (first.other, first.hex, second.hex, first.value, second.value) refl

plain_is : (c : ℕ) → is_plain c ≡ true → (not (c == 34) ≡ true) × ((c == 92) ≡ false)
unfolding is_plain
plain_is c e = (grind (arith, nat_tests), grind (arith, nat_tests))

unescaped_step : (c : ℕ) (rest : List ℕ) → nat_lt c 256 ≡ true → unescaped_from 0 (escape c ++ rest) ≡ c ∷ unescaped_from 0 rest
unescaped_step c rest small =
    let below : c < 256 = grind (arith, nat_tests) in
    let same : 16 * (c / 16) + c % 16 ≡ c = omega arith in
    test (is_plain c)
    (λ t. let e = (plain_is c t).1 in rw (t, e) refl)
    (λ t. rw t (escaped_byte (digit_glyph true (c / 16)) (digit_glyph true (c % 16)) (c / 16) (c % 16) rest
    (glyph_is (c / 16) (omega arith)) (glyph_is (c % 16) (omega arith)) ∙ ap (λ b. b ∷ unescaped_from 0 rest) same))

unescaped_escapes : (text : List ℕ) → IsBytes text → unescaped_from 0 (flat_map escape text) ≡ text
unescaped_escapes [] are = refl
unescaped_escapes (c ∷ text) are =
    let both = and_both (nat_lt c 256) (list_all (λ byte. nat_lt byte 256) text) are in
    unescaped_step c (flat_map escape text) both.0 ∙ ap (λ rest. c ∷ rest) (unescaped_escapes text both.1)

three_pass : (p : ℕ → Bool) (a b c : ℕ) → p a ≡ true → p b ≡ true → p c ≡ true → list_all p (a ∷ b ∷ c ∷ []) ≡ true
three_pass p a b c e f g = rw (e, f, g) refl

inside_escape : (c : ℕ) → nat_lt c 256 ≡ true → list_all (λ b. not (b == 34)) (escape c) ≡ true
inside_escape c small =
    let below : c < 256 = grind (arith, nat_tests) in
    test (is_plain c)
    (λ t. let e = (plain_is c t).0 in rw (t, e) refl)
    (λ t. rw t (three_pass (λ b. not (b == 34)) 92 (digit_glyph true (c / 16)) (digit_glyph true (c % 16)) refl
    (glyph_is (c / 16) (omega arith)).inside (glyph_is (c % 16) (omega arith)).inside))

inside_escapes : (text : List ℕ) → IsBytes text → list_all (λ b. not (b == 34)) (flat_map escape text) ≡ true
inside_escapes [] are = refl
inside_escapes (c ∷ text) are =
    let both = and_both (nat_lt c 256) (list_all (λ byte. nat_lt byte 256) text) are in
    list_all-append (λ b. not (b == 34)) (escape c) (flat_map escape text)
    ∙ and_true _ _ (inside_escape c both.0) (inside_escapes text both.1)

between : (inner : List ℕ) → unquoted (34 ∷ inner ++ 34 ∷ []) ≡ unescaped_from 0 inner
unfolding unescaped
between inner =
    let size = length-append inner (34 ∷ []) in
    let same : suc (length (inner ++ 34 ∷ [])) - 2 ≡ length inner = omega arith in
    ap (λ n. unescaped_from 0 (take n (inner ++ 34 ∷ []))) same ∙ ap (unescaped_from 0) (take-append_seam inner (34 ∷ []))

pub unquoted_quoted : (text : List ℕ) → IsBytes text → unquoted (quoted text) ≡ text
unquoted_quoted text are = between (flat_map escape text) ∙ unescaped_escapes text are

quoted_is : (text : List ℕ) → IsBytes text → IsQuoted (quoted text)
quoted_is text are = record {
  front = 34 ∷ [];
  back = flat_map escape text ++ 34 ∷ [];
  first = refl;
  second = record { front = flat_map escape text; back = 34 ∷ []; first = inside_escapes text are; second = refl; joined = refl };
  joined = refl;
}

pub bytes_token : (text : List ℕ) → IsBytes text → IsToken Bytes (bytes_text text)
bytes_token text are = record {
  printed = refl;
  is = record { front = 99 ∷ []; back = quoted text; first = refl; second = quoted_is text are; joined = refl };
  plain = refl;
}

-- names

-- of what a name starts with, and of its bytes
start_is : (c : ℕ) → is_name_start c ≡ true → letters.is_name_start c ≡ true
unfolding is_name_start
start_is c e = grind (arith, nat_tests)

byte_is : (c : ℕ) → is_name_byte c ≡ true → letters.is_name_byte c ≡ true
unfolding is_name_start is_name_byte is_digit
byte_is c e = grind (arith, nat_tests)

all_more : (p q : ℕ → Bool) → ((c : ℕ) → p c ≡ true → q c ≡ true) → (bytes : List ℕ) → list_all p bytes ≡ true → list_all q bytes ≡ true
all_more p q more [] e = refl
all_more p q more (c ∷ bytes) e =
    let both = and_both (p c) (list_all p bytes) e in
    and_true (q c) (list_all q bytes) (more c both.0) (all_more p q more bytes both.1)

bare_is : (name : List ℕ) → is_bare name ≡ true → IsRun letters.is_name_start letters.is_name_byte name
unfolding is_bare
bare_is [] e = absurd cc
bare_is (c ∷ name) e =
    let all = and_both (nat_lt 0 (length (c ∷ name)) && is_name_start c) (is_name_byte c && list_all is_name_byte name) e in
    let first = and_both (nat_lt 0 (length (c ∷ name))) (is_name_start c) all.0 in
    let rest = and_both (is_name_byte c) (list_all is_name_byte name) all.1 in
    run_is letters.is_name_start letters.is_name_byte c name (start_is c first.1)
    (all_more is_name_byte letters.is_name_byte byte_is name rest.1)

single_same : (a b : Bool) → a ≡ ((a && true) && (b || true))
single_same true true = refl
single_same true false = refl
single_same false b = refl

swapped_same : (a b c : Bool) → c ≡ false → (a && b) ≡ (b && (a || c))
swapped_same true true c e = refl
swapped_same true false c e = refl
swapped_same false true c e = sym e
swapped_same false false c e = refl

decimal_is : (name : List ℕ) → is_decimal name ≡ lex.is_number name
unfolding is_decimal is_digit
decimal_is [] = refl
decimal_is (c ∷ []) = single_same (is_ascii_digit c) (not (c == 48))
decimal_is (c ∷ d ∷ name) =
    swapped_same (not (c == 48)) (list_all is_ascii_digit (c ∷ d ∷ name)) (length (d ∷ name) == 0) (grind (arith, nat_tests))

number_digits : (name : List ℕ) → is_number name ≡ true → lex.is_number name ≡ true
unfolding is_number
number_digits name e = sym (decimal_is name) ∙ (and_both (is_decimal name) (nat_le (length name) 10) (and_both _ (nat_lt (value_of name) (2 ^ 32)) e).0).0

digits_are : (name : List ℕ) → lex.is_number name ≡ true → IsDigits name
digits_are [] e = absurd cc
digits_are (c ∷ name) e =
    let all = and_both (list_all is_ascii_digit (c ∷ name)) _ e in
    let both = and_both (is_ascii_digit c) (list_all is_ascii_digit name) all.0 in
    run_is is_ascii_digit is_ascii_digit c name both.0 both.1

-- a name that is not printed as it stands is no number
quoted_name_is : (name : List ℕ) → IsName name → is_number name ≡ false → IsQuotedName (quoted name)
quoted_name_is name is none = (
  quoted_is name is.bytes,
  ap lex.is_number (unquoted_quoted name is.bytes) ∙ (sym (decimal_is name)
      ∙ is_false (is_decimal name) (λ e. not_both (is_number name) (is.small e) none)),
)

-- what holds of a bare name, of digits and of a quoted name holds of the text of a name
name_cases : (P : List ℕ → Type 0) (name : List ℕ) → IsName name → (IsRun letters.is_name_start letters.is_name_byte name → P name)
    → (IsDigits name → P name) → (IsQuotedName (quoted name) → P (quoted name)) → P (name_text name)
unfolding name_text
name_cases P name is bare digits quotes =
    test (is_bare name)
    (λ t. rw t (bare (bare_is name t)))
    (λ t. rw t (test (is_number name)
    (λ u. rw u (digits (digits_are name (number_digits name u))))
    (λ u. rw u (quotes (quoted_name_is name is u)))))

name_is : (name : List ℕ) → IsName name → kinds.IsName (name_text name)
name_is name is = name_cases kinds.IsName name is (λ bare. inl bare) (λ digits. inr (inl digits)) (λ quotes. inr (inr quotes))

pub global_token : (name : List ℕ) → IsName name → IsToken Global (global_text name)
global_token name is = record {
  printed = refl;
  is = record { front = 64 ∷ []; back = name_text name; first = refl; second = name_is name is; joined = refl };
  plain = refl;
}

pub local_token : (name : List ℕ) → IsName name → IsToken Local (local_text name)
local_token name is = record {
  printed = refl;
  is = record { front = 37 ∷ []; back = name_text name; first = refl; second = name_is name is; joined = refl };
  plain = refl;
}

start_byte : (c : ℕ) → letters.is_name_start c ≡ true → letters.is_name_byte c ≡ true
start_byte c e = grind (arith, nat_tests)

digit_byte : (c : ℕ) → is_ascii_digit c ≡ true → letters.is_name_byte c ≡ true
digit_byte c e = grind (arith, nat_tests)

run_more : (p q r : ℕ → Bool) → ((c : ℕ) → p c ≡ true → r c ≡ true) → ((c : ℕ) → q c ≡ true → r c ≡ true) → (bytes : List ℕ)
    → IsRun p q bytes → IsRun r r bytes
run_more p q r first others bytes is =
    record { front = is.front; back = is.back; first = one is.front is.first; second = all_more q r others is.back is.second; joined = is.joined }
  where
    one : (front : List ℕ) → IsOne p front → IsOne r front
    one [] is = is
    one (c ∷ []) is = first c is
    one (c ∷ d ∷ bytes) is = is

label_is : (name : List ℕ) → IsName name → IsEither (IsRun letters.is_name_byte letters.is_name_byte) IsQuotedName (name_text name)
label_is name is =
    name_cases (IsEither (IsRun letters.is_name_byte letters.is_name_byte) IsQuotedName) name is
    (λ bare. inl (run_more letters.is_name_start letters.is_name_byte letters.is_name_byte start_byte (λ c e. e) name bare))
    (λ digits. inl (run_more is_ascii_digit is_ascii_digit letters.is_name_byte digit_byte digit_byte name digits))
    (λ quotes. inr quotes)

pub label_token : (name : List ℕ) → IsName name → IsToken Label (name_text name ++ 58 ∷ [])
label_token name is = record {
  printed = refl;
  is = record { front = name_text name; back = 58 ∷ []; first = label_is name is; second = refl; joined = refl };
  plain = refl;
}
