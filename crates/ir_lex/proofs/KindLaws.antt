-- The length of each kind finds its language.
use Rattle.std.proofs.Common.{◌≡◌, ℕ, Bool, true, false, not, ◌==◌, inl, inr, Option, Some, None, List, [], ◌∷◌, ◌++◌, length, take, codes, refl, subst, arith}
use Rattle.std.specs.List.{list_all}
use Rattle.std.specs.Char.{is_ascii_digit, is_ascii_hexdigit}
use Rattle.std.proofs.lemmas.Bool.Decides.{nat_tests}
use Rattle.std.proofs.Math.Seq.{take-append_seam}
use Rattle.ir_lex.specs.declared.token.Kind.{Kind}
use Rattle.ir_lex.specs.declared.token.Kind.TheVariants.{Word, Label, Global, Local, Comdat, Meta, MetaText, Group, SummaryNumber, HashWord, Number, Float, Quoted, Bytes, Mark, Dots}
use Rattle.ir_lex.specs.Letters.{is_of, is_word_start, is_word_byte, is_name_start, is_name_byte, is_meta_start, is_meta_byte, is_mark}
use Rattle.ir_lex.specs.Languages.{IsOne, IsByte, IsMany, IsThen, IsEither, IsMaybe, IsRun}
use Rattle.ir_lex.specs.Names.{unquoted, is_number}
use Rattle.ir_lex.specs.Kinds.{IsDigits, IsWord, IsQuoted, IsQuotedName, IsName, IsExponent, IsDecimal, IsHex, Is}
use Rattle.ir_lex.specs.Lengths.{one, byte, many, both, either, maybe, longer, unless, run, digits, to_quote, quoted, quoted_name, name, comdat_name, meta_name, signed_digits, exponent, decimals, fraction, unsigned_decimal, decimal, hex_digits, after_zero, hex, label_name, two_dots, length_of, joined}
use Rattle.ir_lex.proofs.CaseSplits.{test}
use Rattle.ir_lex.proofs.LengthLemmas.{joined_none}
use Rattle.ir_lex.proofs.LengthLaws.{Finds, Exact, Fits, Anything, First, NotFirst, Starts, Apart, one_finds, one_exact, fits_one, many_finds, many_exact, then_finds, then_exact, either_finds, maybe_finds, tail_finds, first_one, first_then, fits_before, fits_maybe, exact_reaches}

-- what holds of each of these bytes holds of one of them
pub of_each : (bytes : List ℕ) (q : ℕ → Bool) → list_all q bytes ≡ true → (b : ℕ) → is_of bytes b ≡ true → q b ≡ true
of_each [] q all b is = absurd cc
of_each (c ∷ bytes) q all b is =
    test (q c)
    (λ u. test (b == c)
    (λ t. let e : b ≡ c = grind (arith, nat_tests) in rw e u)
    (λ t. let rest = rw t at is in let more = rw u at all in of_each bytes q more b rest))
    (λ u. let h = rw u at all in absurd cc)

pub of_apart : (bytes : List ℕ) (q : ℕ → Bool) → list_all (λ b. not (q b)) bytes ≡ true → Apart (is_of bytes) q
of_apart bytes q all b is =
    let h = of_each bytes (λ c. not (q c)) all b is in
    test (q b) (λ t. let d = rw t at h in absurd cc) (λ t. t)

pub apart_of : (bytes : List ℕ) (q : ℕ → Bool) → list_all (λ b. not (q b)) bytes ≡ true → Apart q (is_of bytes)
apart_of bytes q all b is =
    test (is_of bytes b) (λ t. let h = of_apart bytes q all b t in absurd cc) (λ t. t)

pub run_finds : (p q : ℕ → Bool) → Finds (IsRun p q) (run p q)
unfolding run
run_finds p q = then_finds (IsOne p) (IsMany q) (one p) (many q) (one_finds p) (many_finds q) (fits_one p (IsMany q))

pub run_exact : (p q : ℕ → Bool) → Exact (IsRun p q) (run p q) (NotFirst q)
unfolding run
run_exact p q = then_exact (IsOne p) (IsMany q) (one p) (many q) (NotFirst q) (fits_one p (IsMany q)) (many_exact q)

pub first_run : (p q : ℕ → Bool) → Starts (IsRun p q) p
first_run p q = first_then (IsOne p) (IsMany q) p (first_one p)

digits_finds : Finds IsDigits digits
unfolding digits
digits_finds = run_finds is_ascii_digit is_ascii_digit

digits_exact : Exact IsDigits digits (NotFirst is_ascii_digit)
unfolding digits
digits_exact = run_exact is_ascii_digit is_ascii_digit

first_digits : Starts IsDigits is_ascii_digit
first_digits = first_run is_ascii_digit is_ascii_digit

behind_finds : (c : ℕ) (Q : List ℕ → Type 0) (g : List ℕ → Option ℕ) → Finds Q g → Finds (IsThen (IsByte c) Q) (both (byte c) g)
behind_finds c Q g G = then_finds (IsByte c) Q (byte c) g (one_finds (λ b. b == c)) G (fits_one (λ b. b == c) Q)

-- quoted texts

abbrev inside : ℕ → Bool
inside b = not (b == 34)

fits_quote : Fits (IsMany inside) (IsByte 34) (many inside)
fits_quote = fits_before (IsMany inside) (IsByte 34) (many inside) (λ b. b == 34) inside (many_exact inside) (first_one (λ b. b == 34)) (λ b t. rw t refl)

pub quoted_finds : Finds IsQuoted quoted
unfolding quoted to_quote
quoted_finds = behind_finds 34 (IsThen (IsMany inside) (IsByte 34)) to_quote
    (then_finds (IsMany inside) (IsByte 34) (many inside) (byte 34) (many_finds inside) (one_finds (λ b. b == 34)) fits_quote)

pub quoted_exact : Exact IsQuoted quoted Anything
unfolding quoted to_quote
quoted_exact = then_exact (IsByte 34) (IsThen (IsMany inside) (IsByte 34)) (byte 34) to_quote Anything
    (fits_one (λ b. b == 34) (IsThen (IsMany inside) (IsByte 34)))
    (then_exact (IsMany inside) (IsByte 34) (many inside) (byte 34) Anything fits_quote (one_exact (λ b. b == 34)))

pub first_quoted : Starts IsQuoted (λ b. b == 34)
first_quoted = first_then (IsByte 34) (IsThen (IsMany inside) (IsByte 34)) (λ b. b == 34) (first_one (λ b. b == 34))

unless_is : (t : ℕ → Bool) (o : Option ℕ) (n : ℕ) → unless t o ≡ Some n → (o ≡ Some n) × (t n ≡ false)
unfolding unless
unless_is t None n e = absurd cc
unless_is t (Some m) n e =
    test (t m) (λ u. let d = rw u at e in absurd cc) (λ u. let d = rw u at e in let k : m ≡ n = cc in (d, let P : ℕ → Type 0 = λ x. t x ≡ false in subst P k u))

unless_at : (t : ℕ → Bool) (o : Option ℕ) (n : ℕ) → o ≡ Some n → t n ≡ false → unless t o ≡ Some n
unfolding unless
unless_at t o n e u = rw (e, u) refl

named_exact : Exact IsQuotedName quoted_name Anything
unfolding quoted_name
named_exact front rest is other =
    unless_at (λ n. is_number (unquoted (take n (front ++ rest)))) (quoted (front ++ rest)) (length front)
    (quoted_exact front rest is.0 tt)
    (let e : take (length front) (front ++ rest) ≡ front = take-append_seam front rest in rw e is.1)

pub named_finds : Finds IsQuotedName quoted_name
unfolding quoted_name
named_finds = record {
  within = λ bytes n e. let d = unless_is (λ n. is_number (unquoted (take n bytes))) (quoted bytes) n e in quoted_finds.within bytes n d.0;
  is = λ bytes n e. let d = unless_is (λ n. is_number (unquoted (take n bytes))) (quoted bytes) n e in (quoted_finds.is bytes n d.0, d.1);
  longest = λ front rest is. exact_reaches (length front) _ (named_exact front rest is tt);
}

pub name_finds : Finds IsName name
unfolding name
name_finds = either_finds (IsRun is_name_start is_name_byte) (IsEither IsDigits IsQuotedName) (run is_name_start is_name_byte) (either digits quoted_name)
    (run_finds is_name_start is_name_byte) (either_finds IsDigits IsQuotedName digits quoted_name digits_finds named_finds)

-- labels

longer_none : (n : ℕ) (o u : Option ℕ) → o ≡ Some n → u ≡ None → longer o u ≡ Some n
longer_none n o u e d = rw (e, d) refl

none_longer : (n : ℕ) (o u : Option ℕ) → o ≡ None → u ≡ Some n → longer o u ≡ Some n
none_longer n o u e d = rw (e, d) refl

one_other : (p q : ℕ → Bool) (bytes rest : List ℕ) → First p bytes → Apart p q → one q (bytes ++ rest) ≡ None
unfolding one
one_other p q [] rest is apart = absurd is
one_other p q (b ∷ bytes) rest is apart = rw (apart b is) refl

no_text : (o : Option ℕ) (g : ℕ → Option ℕ) → o ≡ None → joined o g ≡ None
no_text o g e = rw e (joined_none g)

unless_no : (t : ℕ → Bool) (o : Option ℕ) → o ≡ None → unless t o ≡ None
unfolding unless
unless_no t o e = rw e refl

no_quoted_name : (bytes rest : List ℕ) → First is_name_byte bytes → quoted_name (bytes ++ rest) ≡ None
unfolding quoted_name quoted unless
no_quoted_name bytes rest is =
    let e : one (λ b. b == 34) (bytes ++ rest) ≡ None = one_other is_name_byte (λ b. b == 34) bytes rest is (λ b t. grind (arith, nat_tests)) in
    unless_no (λ n. is_number (unquoted (take n (bytes ++ rest)))) (quoted (bytes ++ rest)) (no_text (one (λ b. b == 34) (bytes ++ rest)) _ e)

no_name_run : (bytes rest : List ℕ) → First (λ b. b == 34) bytes → run is_name_byte is_name_byte (bytes ++ rest) ≡ None
unfolding run
no_name_run bytes rest is =
    no_text _ _ (one_other (λ b. b == 34) is_name_byte bytes rest is (λ b t. grind (arith, nat_tests)))

colon_apart : Apart (λ b. b == 58) is_name_byte
colon_apart b t = grind (arith, nat_tests)

fits_colon : Fits (IsEither (IsRun is_name_byte is_name_byte) IsQuotedName) (IsByte 58) label_name
unfolding label_name
fits_colon front back rest (inl is) other =
    longer_none (length front) _ _
    (fits_before (IsRun is_name_byte is_name_byte) (IsByte 58) (run is_name_byte is_name_byte) (λ b. b == 58) is_name_byte
    (run_exact is_name_byte is_name_byte) (first_one (λ b. b == 58)) colon_apart front back rest is other)
    (no_quoted_name front (back ++ rest) (first_run is_name_byte is_name_byte front is))
fits_colon front back rest (inr is) other =
    none_longer (length front) _ _
    (no_name_run front (back ++ rest) (first_quoted front is.0))
    (named_exact front (back ++ rest) is tt)

label_finds : Finds (Is Label) (length_of Label)
label_finds = then_finds (IsEither (IsRun is_name_byte is_name_byte) IsQuotedName) (IsByte 58) label_name (byte 58)
    (unfold label_name in either_finds (IsRun is_name_byte is_name_byte) IsQuotedName (run is_name_byte is_name_byte) quoted_name
    (run_finds is_name_byte is_name_byte) named_finds)
    (one_finds (λ b. b == 58)) fits_colon

-- numbers

sign_apart : Apart is_ascii_digit (is_of (codes "-+"))
sign_apart = apart_of (codes "-+") is_ascii_digit refl

signed_finds : Finds (IsThen (IsMaybe (IsOne (is_of (codes "-+")))) IsDigits) signed_digits
unfolding signed_digits
signed_finds = then_finds (IsMaybe (IsOne (is_of (codes "-+")))) IsDigits (maybe (one (is_of (codes "-+")))) digits
    (maybe_finds (IsOne (is_of (codes "-+"))) (one (is_of (codes "-+"))) (one_finds (is_of (codes "-+")))) digits_finds
    (fits_maybe (is_of (codes "-+")) is_ascii_digit IsDigits first_digits sign_apart)

exponent_finds : Finds IsExponent exponent
unfolding exponent
exponent_finds = then_finds (IsOne (is_of (codes "eE"))) (IsThen (IsMaybe (IsOne (is_of (codes "-+")))) IsDigits) (one (is_of (codes "eE"))) signed_digits
    (one_finds (is_of (codes "eE"))) signed_finds (fits_one (is_of (codes "eE")) (IsThen (IsMaybe (IsOne (is_of (codes "-+")))) IsDigits))

first_exponent : Starts IsExponent (is_of (codes "eE"))
first_exponent = first_then (IsOne (is_of (codes "eE"))) (IsThen (IsMaybe (IsOne (is_of (codes "-+")))) IsDigits) (is_of (codes "eE")) (first_one (is_of (codes "eE")))

abbrev pub IsDecimals : List ℕ → Type 0
IsDecimals = IsThen (IsMany is_ascii_digit) (IsMaybe IsExponent)

decimals_finds : Finds IsDecimals decimals
unfolding decimals
decimals_finds = tail_finds (IsMany is_ascii_digit) IsExponent (many is_ascii_digit) exponent (many_finds is_ascii_digit) exponent_finds
    (fits_before (IsMany is_ascii_digit) IsExponent (many is_ascii_digit) (is_of (codes "eE")) is_ascii_digit (many_exact is_ascii_digit) first_exponent
    (of_apart (codes "eE") is_ascii_digit refl))

abbrev pub IsFraction : List ℕ → Type 0
IsFraction = IsThen (IsByte 46) IsDecimals

fraction_finds : Finds IsFraction fraction
unfolding fraction
fraction_finds = behind_finds 46 IsDecimals decimals decimals_finds

point_apart : Apart (λ b. b == 46) is_ascii_digit
point_apart b t = grind (arith, nat_tests)

unsigned_finds : Finds (IsThen IsDigits IsFraction) unsigned_decimal
unfolding unsigned_decimal
unsigned_finds = then_finds IsDigits IsFraction digits fraction digits_finds fraction_finds
    (fits_before IsDigits IsFraction digits (λ b. b == 46) is_ascii_digit digits_exact
    (first_then (IsByte 46) IsDecimals (λ b. b == 46) (first_one (λ b. b == 46))) point_apart)

pub first_unsigned : Starts (IsThen IsDigits IsFraction) is_ascii_digit
first_unsigned = first_then IsDigits IsFraction is_ascii_digit first_digits

decimal_finds : Finds IsDecimal decimal
unfolding decimal
decimal_finds = then_finds (IsMaybe (IsOne (is_of (codes "-+")))) (IsThen IsDigits IsFraction) (maybe (one (is_of (codes "-+")))) unsigned_decimal
    (maybe_finds (IsOne (is_of (codes "-+"))) (one (is_of (codes "-+"))) (one_finds (is_of (codes "-+")))) unsigned_finds
    (fits_maybe (is_of (codes "-+")) is_ascii_digit (IsThen IsDigits IsFraction) first_unsigned sign_apart)

abbrev pub IsHexDigits : List ℕ → Type 0
IsHexDigits = IsThen (IsMaybe (IsOne (is_of (codes "HKLMR")))) (IsRun is_ascii_hexdigit is_ascii_hexdigit)

hex_digits_finds : Finds IsHexDigits hex_digits
unfolding hex_digits
hex_digits_finds = then_finds (IsMaybe (IsOne (is_of (codes "HKLMR")))) (IsRun is_ascii_hexdigit is_ascii_hexdigit) (maybe (one (is_of (codes "HKLMR")))) (run is_ascii_hexdigit is_ascii_hexdigit)
    (maybe_finds (IsOne (is_of (codes "HKLMR"))) (one (is_of (codes "HKLMR"))) (one_finds (is_of (codes "HKLMR")))) (run_finds is_ascii_hexdigit is_ascii_hexdigit)
    (fits_maybe (is_of (codes "HKLMR")) is_ascii_hexdigit (IsRun is_ascii_hexdigit is_ascii_hexdigit) (first_run is_ascii_hexdigit is_ascii_hexdigit)
    (apart_of (codes "HKLMR") is_ascii_hexdigit refl))

hex_finds : Finds IsHex hex
unfolding hex after_zero
hex_finds = behind_finds 48 (IsThen (IsByte 120) IsHexDigits) after_zero (behind_finds 120 IsHexDigits hex_digits hex_digits_finds)

number_finds : Finds (Is Number) (length_of Number)
number_finds = then_finds (IsMaybe (IsByte 45)) IsDigits (maybe (byte 45)) digits
    (maybe_finds (IsByte 45) (byte 45) (one_finds (λ b. b == 45))) digits_finds
    (fits_maybe (λ b. b == 45) is_ascii_digit IsDigits first_digits (λ b t. grind (arith, nat_tests)))

dots_finds : Finds (Is Dots) (length_of Dots)
dots_finds = behind_finds 46 (IsThen (IsByte 46) (IsByte 46)) two_dots
    (unfold two_dots in behind_finds 46 (IsByte 46) (byte 46) (one_finds (λ b. b == 46)))

pub kind_finds : (k : Kind) → Finds (Is k) (length_of k)
kind_finds Word = run_finds is_word_start is_word_byte
kind_finds Label = label_finds
kind_finds Global = behind_finds 64 IsName name name_finds
kind_finds Local = behind_finds 37 IsName name name_finds
kind_finds Comdat = behind_finds 36 (IsEither (IsRun is_name_start is_name_byte) IsQuoted) comdat_name
    (unfold comdat_name in either_finds (IsRun is_name_start is_name_byte) IsQuoted (run is_name_start is_name_byte) quoted (run_finds is_name_start is_name_byte) quoted_finds)
kind_finds Meta = behind_finds 33 (IsEither (IsRun is_meta_start is_meta_byte) IsDigits) meta_name
    (unfold meta_name in either_finds (IsRun is_meta_start is_meta_byte) IsDigits (run is_meta_start is_meta_byte) digits (run_finds is_meta_start is_meta_byte) digits_finds)
kind_finds MetaText = behind_finds 33 IsQuoted quoted quoted_finds
kind_finds Group = behind_finds 35 IsDigits digits digits_finds
kind_finds SummaryNumber = behind_finds 94 IsDigits digits digits_finds
kind_finds HashWord = behind_finds 35 IsWord (run is_word_start is_word_byte) (run_finds is_word_start is_word_byte)
kind_finds Number = number_finds
kind_finds Float = either_finds IsDecimal IsHex decimal hex decimal_finds hex_finds
kind_finds Quoted = quoted_finds
kind_finds Bytes = behind_finds 99 IsQuoted quoted quoted_finds
kind_finds Mark = one_finds is_mark
kind_finds Dots = dots_finds
