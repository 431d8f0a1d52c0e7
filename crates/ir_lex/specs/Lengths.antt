-- For each language, the length of its longest text at the front of a list of bytes; None where it has none there.
use Rattle.std.specs.Prelude.{ℕ, ◌+◌, Bool, not, ◌==◌, nat_lt, if◌then◌else◌, List, [], ◌∷◌, take, drop, codes, Option, Some, None, option_map, unwrap_or}
use Rattle.std.specs.List.{prefix_len}
use Rattle.std.specs.Char.{is_ascii_digit, is_ascii_hexdigit}
use Rattle.ir_lex.specs.declared.token.Kind.{Kind}
use Rattle.ir_lex.specs.declared.token.Kind.TheVariants.{Word, Label, Global, Local, Comdat, Meta, MetaText, Group, SummaryNumber, HashWord, Number, Float, Quoted, Bytes, Mark, Dots}
use Rattle.ir_lex.specs.Letters.{is_of, is_word_start, is_word_byte, is_name_start, is_name_byte, is_meta_start, is_meta_byte, is_mark}
use Rattle.ir_lex.specs.Names.{unquoted, is_number}

unfoldable pub one : (ℕ → Bool) → List ℕ → Option ℕ
one p [] = None
one p (b ∷ bytes) = if p b then Some 1 else None

abbrev pub byte : ℕ → List ℕ → Option ℕ
byte c = one (λ b. b == c)

unfoldable pub many : (ℕ → Bool) → List ℕ → Option ℕ
many p bytes = Some (prefix_len p bytes)

-- n more
unfoldable pub more : ℕ → Option ℕ → Option ℕ
more n other = option_map (λ m. n + m) other

unfoldable pub joined : Option ℕ → (ℕ → Option ℕ) → Option ℕ
joined None g = None
joined (Some n) g = more n (g n)

abbrev pub both : (List ℕ → Option ℕ) → (List ℕ → Option ℕ) → List ℕ → Option ℕ
both f g bytes = joined (f bytes) (λ n. g (drop n bytes))

abbrev pub longer : Option ℕ → Option ℕ → Option ℕ
longer None other = other
longer (Some n) None = Some n
longer (Some n) (Some m) = if nat_lt n m then Some m else Some n

abbrev pub either : (List ℕ → Option ℕ) → (List ℕ → Option ℕ) → List ℕ → Option ℕ
either f g bytes = longer (f bytes) (g bytes)

unfoldable pub maybe : (List ℕ → Option ℕ) → List ℕ → Option ℕ
maybe f bytes = Some (unwrap_or (f bytes) 0)

unfoldable pub run : (ℕ → Bool) → (ℕ → Bool) → List ℕ → Option ℕ
run p q = both (one p) (many q)

unfoldable pub digits : List ℕ → Option ℕ
digits = run is_ascii_digit is_ascii_digit

unfoldable pub to_quote : List ℕ → Option ℕ
to_quote = both (many (λ b. not (b == 34))) (byte 34)

unfoldable pub quoted : List ℕ → Option ℕ
quoted = both (byte 34) to_quote

-- a length, unless a test refuses it
unfoldable pub unless : (ℕ → Bool) → Option ℕ → Option ℕ
unless test None = None
unless test (Some n) = if test n then None else Some n

unfoldable pub quoted_name : List ℕ → Option ℕ
quoted_name bytes = unless (λ n. is_number (unquoted (take n bytes))) (quoted bytes)

unfoldable pub name : List ℕ → Option ℕ
name = either (run is_name_start is_name_byte) (either digits quoted_name)

unfoldable pub comdat_name : List ℕ → Option ℕ
comdat_name = either (run is_name_start is_name_byte) quoted

unfoldable pub meta_name : List ℕ → Option ℕ
meta_name = either (run is_meta_start is_meta_byte) digits

unfoldable pub signed_digits : List ℕ → Option ℕ
signed_digits = both (maybe (one (is_of (codes "-+")))) digits

unfoldable pub exponent : List ℕ → Option ℕ
exponent = both (one (is_of (codes "eE"))) signed_digits

unfoldable pub decimals : List ℕ → Option ℕ
decimals = both (many is_ascii_digit) (maybe exponent)

unfoldable pub fraction : List ℕ → Option ℕ
fraction = both (byte 46) decimals

unfoldable pub unsigned_decimal : List ℕ → Option ℕ
unsigned_decimal = both digits fraction

unfoldable pub decimal : List ℕ → Option ℕ
decimal = both (maybe (one (is_of (codes "-+")))) unsigned_decimal

unfoldable pub hex_digits : List ℕ → Option ℕ
hex_digits = both (maybe (one (is_of (codes "HKLMR")))) (run is_ascii_hexdigit is_ascii_hexdigit)

unfoldable pub after_zero : List ℕ → Option ℕ
after_zero = both (byte 120) hex_digits

unfoldable pub hex : List ℕ → Option ℕ
hex = both (byte 48) after_zero

unfoldable pub label_name : List ℕ → Option ℕ
label_name = either (run is_name_byte is_name_byte) quoted_name

unfoldable pub two_dots : List ℕ → Option ℕ
two_dots = both (byte 46) (byte 46)

abbrev pub length_of : Kind → List ℕ → Option ℕ
length_of Word = run is_word_start is_word_byte
length_of Label = both label_name (byte 58)
length_of Global = both (byte 64) name
length_of Local = both (byte 37) name
length_of Comdat = both (byte 36) comdat_name
length_of Meta = both (byte 33) meta_name
length_of MetaText = both (byte 33) quoted
length_of Group = both (byte 35) digits
length_of SummaryNumber = both (byte 94) digits
length_of HashWord = both (byte 35) (run is_word_start is_word_byte)
length_of Number = both (maybe (byte 45)) digits
length_of Float = either decimal hex
length_of Quoted = quoted
length_of Bytes = both (byte 99) quoted
length_of Mark = one is_mark
length_of Dots = both (byte 46) two_dots
