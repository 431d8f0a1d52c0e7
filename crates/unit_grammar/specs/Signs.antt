-- Tests of tokens, as data: what two of them can pass at once is computed.
use Rattle.std.specs.Prelude.{ℕ, Bool, true, false, not, ◌&&◌, ◌||◌, List, [], ◌∷◌, drop, nat_eq, bytes_eq, Option, Some, None}
use Rattle.std.specs.List.{list_all, list_any}
use Rattle.std.specs.Char.{is_ascii_digit}
use Rattle.ir_lex.specs.declared.token.Kind.{Kind}
use Rattle.ir_lex.specs.declared.token.Kind.TheVariants.{Word, Mark}
use Rattle.ir_lex.specs.Kinds.{row}
use Rattle.ir_lex.specs.Names.{name_of, either_name}
use Rattle.unit_grammar.specs.Pieces.{Piece}

-- What a sign asks of a token's bytes: nothing; to be one of these texts; to be this byte and digits; not to be so.
pub data Which : Type 0 where
  whatever : Which
  one_of : List (List ℕ) → Which
  numbered : ℕ → Which
  unnumbered : ℕ → Which

-- this byte, then digits
abbrev pub is_numbered : ℕ → List ℕ → Bool
is_numbered first [] = false
is_numbered first (b ∷ []) = false
is_numbered first (b ∷ c ∷ bytes) = nat_eq b first && list_all is_ascii_digit (c ∷ bytes)

abbrev pub fits : Which → List ℕ → Bool
fits whatever bytes = true
fits (one_of texts) bytes = list_any (bytes_eq bytes) texts
fits (numbered first) bytes = is_numbered first bytes
fits (unnumbered first) bytes = not (is_numbered first bytes)

pub record Sign : Type 0 where
  pub kind : Kind
  pub which : Which

abbrev pub is_kind : Kind → Piece → Bool
is_kind kind t = nat_eq (row t.kind) (row kind)

abbrev pub passes : Sign → Piece → Bool
passes s t = is_kind s.kind t && fits s.which t.bytes

-- a token of the kind, and one of these texts
abbrev pub of_kind : Kind → Sign
of_kind kind = record { kind = kind; which = whatever }

abbrev pub of_text : Kind → List ℕ → Sign
of_text kind bytes = record { kind = kind; which = one_of (bytes ∷ []) }

abbrev pub mark : List ℕ → Sign
mark = of_text Mark

abbrev pub word : List ℕ → Sign
word = of_text Word

abbrev pub words : List (List ℕ) → Sign
words texts = record { kind = Word; which = one_of texts }

-- a token of the kind: this byte and digits, or not so
abbrev pub of_number : Kind → ℕ → Sign
of_number kind first = record { kind = kind; which = numbered first }

abbrev pub of_no_number : Kind → ℕ → Sign
of_no_number kind first = record { kind = kind; which = unnumbered first }

-- no bytes fit both
abbrev pub excludes : Which → Which → Bool
excludes (one_of texts) other = list_all (λ bytes. not (fits other bytes)) texts
excludes (numbered first) (unnumbered other) = nat_eq first other
excludes (unnumbered first) (numbered other) = nat_eq first other
excludes (numbered first) (one_of texts) = list_all (λ bytes. not (is_numbered first bytes)) texts
excludes (unnumbered first) (one_of texts) = list_all (is_numbered first) texts
excludes _ _ = false

-- no token passes both
abbrev pub apart : Sign → Sign → Bool
apart s r = not (nat_eq (row s.kind) (row r.kind)) || excludes s.which r.which

-- how a text begins: with a token, and perhaps a second one
pub record Start : Type 0 where
  pub first : Sign
  pub second : Option Sign

abbrev pub goes_on : Option Sign → List Piece → Bool
goes_on None ts = true
goes_on (Some s) [] = false
goes_on (Some s) (t ∷ ts) = passes s t

abbrev pub begins : Start → List Piece → Bool
begins s [] = false
begins s (t ∷ ts) = passes s.first t && goes_on s.second ts

abbrev pub begins_any : List Start → List Piece → Bool
begins_any starts ts = list_any (λ s. begins s ts) starts

-- no tokens begin both ways
abbrev pub seconds_apart : Option Sign → Option Sign → Bool
seconds_apart (Some s) (Some r) = apart s r
seconds_apart _ _ = false

abbrev pub starts_apart : Start → Start → Bool
starts_apart s r = apart s.first r.first || seconds_apart s.second r.second

abbrev pub all_apart : List Start → List Start → Bool
all_apart starts others = list_all (λ s. list_all (starts_apart s) others) starts

-- the name behind a token's sign
abbrev pub behind_sign : Piece → List ℕ
behind_sign t = either_name (drop 1 t.bytes)

-- the name that a token of the kind says
abbrev pub name : Kind → Piece → List ℕ
name kind t = name_of kind t.bytes
