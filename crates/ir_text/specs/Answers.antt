-- What `read_units` answers of a text.
use Rattle.std.specs.Prelude.{◌≡◌, ℕ, ◌+◌, ◌/◌, ◌%◌, ◌<◌, ◌⊎◌, if◌then◌else◌, nat_lt, List, [], ◌∷◌, ◌++◌, length, slice_index, codes, Result, Ok, Err}
use Rattle.ltt_base.specs.declared.refusal.Code.TheVariants.{E01, E02, E12}
use Rattle.ltt_base.specs.declared.refusal.Refusal.{Refusal}
use Rattle.ltt_base.specs.declared.refusal.Fault.{Fault}
use Rattle.ltt_base.specs.declared.refusal.Fault.TheVariants.{Refused, Memory}
use Rattle.ltt_base.specs.declared.refusal.Placed.{Placed}
use Rattle.ir_values.specs.declared.units.Unit.{Unit as TheUnit}
use Rattle.ir_lex.specs.declared.token.Token.{Token}
use Rattle.ir_lex.specs.Places.{place_at}
use Rattle.ir_lex.specs.Texts.{Tokens, IsStuckBehind}
use Rattle.unit_grammar.specs.Pieces.{Piece, pieces}
use Rattle.ir_text.specs.Reads.{Reads, StopsAt, NestsAt}

-- the text is these units
pub record IsRead (file : ℕ) (text : List ℕ) (us : List (Placed TheUnit)) : Type 0 where
  pub tokens : List Token
  pub are : Tokens file text tokens
  pub reads : Reads (pieces text tokens) us

-- a digit below 16, in upper case
abbrev pub hex_digit : ℕ → ℕ
hex_digit n = if nat_lt n 10 then 48 + n else 55 + n

-- `0xHH`
abbrev pub byte_word : ℕ → List ℕ
byte_word byte = codes "0x" ++ hex_digit (byte / 16) ∷ hex_digit (byte % 16) ∷ []

-- at a byte no token begins: the refusal of the first such byte
pub record IsNoToken (file : ℕ) (text : List ℕ) (refusal : Refusal) : Type 0 where
  pub tokens : List Token
  pub stuck : IsStuckBehind file text tokens refusal.place
  pub offset : ℕ
  pub within : offset < length text
  pub stands : refusal.place ≡ place_at file text offset
  pub is : refusal ≡ record { code = E01; place = refusal.place; word = byte_word (slice_index text offset) }

-- the text has tokens, and at one of them, behind the units before it, no unit stands: the refusal of that token
pub record IsNoUnit (file : ℕ) (text : List ℕ) (refusal : Refusal) : Type 0 where
  pub tokens : List Token
  pub are : Tokens file text tokens
  pub token : Piece
  pub stops : StopsAt (pieces text tokens) token
  pub is : refusal ≡ record { code = E02; place = token.place; word = token.bytes }

-- the text has tokens, and at one of them, behind the units before it, too many levels are opened: the limit's refusal
pub record IsNested (file : ℕ) (text : List ℕ) (refusal : Refusal) : Type 0 where
  pub tokens : List Token
  pub are : Tokens file text tokens
  pub token : Piece
  pub nests : NestsAt (pieces text tokens) token
  pub is : refusal ≡ record { code = E12; place = token.place; word = codes "nesting" }

abbrev pub IsRefused : ℕ → List ℕ → Refusal → Type 0
IsRefused file text refusal = IsNoToken file text refusal ⊎ (IsNoUnit file text refusal ⊎ IsNested file text refusal)

abbrev pub Answers : ℕ → List ℕ → Result (List (Placed TheUnit)) Fault → Type 0
Answers file text (Ok us) = IsRead file text us
Answers file text (Err (Refused refusal)) = IsRefused file text refusal
Answers file text (Err Memory) = Unit {0}
