-- The tokens as the code sees them, and what its readers answer.
use Rattle.std.specs.Prelude.{◌≡◌, ℕ, ◌+◌, List, [], ◌∷◌, drop, Option, Some, None, Result, Ok, Err}
use Rattle.unit_grammar.specs.declared.seen.Seen.{Seen}
use Rattle.unit_grammar.specs.declared.input.Input.{Input}
use Rattle.unit_grammar.specs.declared.stop.Stop.{Stop}
use Rattle.unit_grammar.specs.declared.stop.Stop.TheVariants.{Absent, Deep, Memory}
use Rattle.unit_grammar.specs.Pieces.{Piece, pieces}
use Rattle.unit_grammar.specs.Readers.{Read, found, absent, deep}

-- the tokens of an input
abbrev pub tokens : Input → List Piece
tokens input = pieces input.text.now input.tokens.now

abbrev pub seen_piece : Seen → Piece
seen_piece seen = record {
  kind = seen.kind;
  bytes = seen.bytes.now;
  place = seen.place;
  start = seen.start;
  end = seen.end;
  source = seen.source.now;
}

-- the token at a place, or the end
abbrev pub Sees : List Piece → ℕ → Option Seen → Type 0
Sees tokens at (Some seen) = drop at tokens ≡ seen_piece seen ∷ drop (at + 1) tokens
Sees tokens at None = drop at tokens ≡ []

-- What a function of the code answers: the value and the place behind it, that none begins there, or that one is opened
-- too deep. Want of memory says nothing.
abbrev pub Gives : {A : Type 0} → List Piece → Result (A × ℕ) Stop → Read A → Type 0
Gives tokens (Ok x) read = read ≡ found x.0 (drop x.1 tokens)
Gives tokens (Err Absent) read = read ≡ absent
Gives tokens (Err Deep) read = read ≡ deep
Gives tokens (Err Memory) read = Unit {0}

-- the same where the value is a token
abbrev pub GivesPiece : List Piece → Result (Seen × ℕ) Stop → Read Piece → Type 0
GivesPiece tokens (Ok x) read = read ≡ found (seen_piece x.0) (drop x.1 tokens)
GivesPiece tokens (Err Absent) read = read ≡ absent
GivesPiece tokens (Err Deep) read = read ≡ deep
GivesPiece tokens (Err Memory) read = Unit {0}

-- the same where there is no value
abbrev pub Passes : List Piece → Result ℕ Stop → Read (Unit {0}) → Type 0
Passes tokens (Ok at) read = read ≡ found tt (drop at tokens)
Passes tokens (Err Absent) read = read ≡ absent
Passes tokens (Err Deep) read = read ≡ deep
Passes tokens (Err Memory) read = Unit {0}
