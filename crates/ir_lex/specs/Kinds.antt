-- The language of each kind of token, and the token that begins at a place.
use Rattle.std.specs.Prelude.{◌≡◌, ℕ, ◌<◌, ◌≤◌, not, ◌==◌, ◌⊎◌, IsFalse, List, ◌++◌, length, take, codes}
use Rattle.std.specs.Char.{is_ascii_digit, is_ascii_hexdigit}
use Rattle.ir_lex.specs.declared.token.Kind.{Kind}
use Rattle.ir_lex.specs.declared.token.Kind.TheVariants.{Word, Label, Global, Local, Comdat, Meta, MetaText, Group, SummaryNumber, HashWord, Number, Float, Quoted, Bytes, Mark, Dots}
use Rattle.ir_lex.specs.Letters.{is_of, is_word_start, is_word_byte, is_name_start, is_name_byte, is_meta_start, is_meta_byte, is_mark}
use Rattle.ir_lex.specs.Languages.{IsOne, IsByte, IsMany, IsThen, IsEither, IsMaybe, IsRun}
use Rattle.ir_lex.specs.Names.{unquoted, is_number}

abbrev pub IsDigits : List ℕ → Type 0
IsDigits = IsRun is_ascii_digit is_ascii_digit

abbrev pub IsWord : List ℕ → Type 0
IsWord = IsRun is_word_start is_word_byte

-- `"`, and all up to the next `"`
abbrev pub IsQuoted : List ℕ → Type 0
IsQuoted = IsThen (IsByte 34) (IsThen (IsMany (λ b. not (b == 34))) (IsByte 34))

-- a quoted text that is no number, so that no quoted name is taken for a numbered one
abbrev pub IsQuotedName : List ℕ → Type 0
IsQuotedName bytes = IsQuoted bytes × IsFalse (is_number (unquoted bytes))

-- what stands behind the sign of a global or a local: a bare name, digits or a quoted name
abbrev pub IsName : List ℕ → Type 0
IsName = IsEither (IsRun is_name_start is_name_byte) (IsEither IsDigits IsQuotedName)

-- [eE][-+]?[0-9]+
abbrev pub IsExponent : List ℕ → Type 0
IsExponent = IsThen (IsOne (is_of (codes "eE"))) (IsThen (IsMaybe (IsOne (is_of (codes "-+")))) IsDigits)

-- [-+]?[0-9]+\.[0-9]*, and perhaps an exponent
abbrev pub IsDecimal : List ℕ → Type 0
IsDecimal =
    IsThen (IsMaybe (IsOne (is_of (codes "-+")))) (IsThen IsDigits
    (IsThen (IsByte 46) (IsThen (IsMany is_ascii_digit) (IsMaybe IsExponent))))

-- 0x[HKLMR]?[0-9A-Fa-f]+
abbrev pub IsHex : List ℕ → Type 0
IsHex =
    IsThen (IsByte 48) (IsThen (IsByte 120)
    (IsThen (IsMaybe (IsOne (is_of (codes "HKLMR")))) (IsRun is_ascii_hexdigit is_ascii_hexdigit)))

-- the tokens of each kind
abbrev pub Is : Kind → List ℕ → Type 0
Is Word = IsWord
Is Label = IsThen (IsEither (IsRun is_name_byte is_name_byte) IsQuotedName) (IsByte 58)
Is Global = IsThen (IsByte 64) IsName
Is Local = IsThen (IsByte 37) IsName
Is Comdat = IsThen (IsByte 36) (IsEither (IsRun is_name_start is_name_byte) IsQuoted)
Is Meta = IsThen (IsByte 33) (IsEither (IsRun is_meta_start is_meta_byte) IsDigits)
Is MetaText = IsThen (IsByte 33) IsQuoted
Is Group = IsThen (IsByte 35) IsDigits
Is SummaryNumber = IsThen (IsByte 94) IsDigits
Is HashWord = IsThen (IsByte 35) IsWord
Is Number = IsThen (IsMaybe (IsByte 45)) IsDigits
Is Float = IsEither IsDecimal IsHex
Is Quoted = IsQuoted
Is Bytes = IsThen (IsByte 99) IsQuoted
Is Mark = IsOne is_mark
Is Dots = IsThen (IsByte 46) (IsThen (IsByte 46) (IsByte 46))

-- the row of the kinds, from the first to the last
abbrev pub row : Kind → ℕ
row Word = 0
row Label = 1
row Global = 2
row Local = 3
row Comdat = 4
row Meta = 5
row MetaText = 6
row Group = 7
row SummaryNumber = 8
row HashWord = 9
row Number = 10
row Float = 11
row Quoted = 12
row Bytes = 13
row Mark = 14
row Dots = 15

-- A token of the kind k and of n bytes stands at the front of the text. Each other that does is shorter, or of the
-- same length and of a later row.
pub record Begins (text : List ℕ) (k : Kind) (n : ℕ) : Type 0 where
  pub within : n ≤ length text
  pub is : Is k (take n text)
  pub longest : (j : Kind) (front rest : List ℕ) → Is j front → text ≡ front ++ rest →
      (length front < n) ⊎ ((length front ≡ n) × (row k ≤ row j))

-- no token stands at the front of the text
abbrev pub NoneBegins : List ℕ → Type 0
NoneBegins text = (j : Kind) (front rest : List ℕ) → Is j front → text ≡ front ++ rest → ⊥
