-- A token with its bytes.
use Rattle.std.specs.Prelude.{ℕ, List, [], ◌∷◌, map, slice_range}
use Rattle.ltt_base.specs.declared.refusal.Place.{Place}
use Rattle.ir_lex.specs.declared.token.Kind.{Kind}
use Rattle.ir_lex.specs.declared.token.Token.{Token}

-- a token of a text, with its bytes: those of `source` from `start` up to `end`
pub record Piece : Type 0 where
  pub kind : Kind
  pub bytes : List ℕ
  pub place : Place
  pub start : ℕ
  pub end : ℕ
  pub source : List ℕ

-- the token with its bytes in a text
abbrev pub piece : List ℕ → Token → Piece
piece text token = record {
  kind = token.kind;
  bytes = slice_range text token.start token.end;
  place = token.place;
  start = token.start;
  end = token.end;
  source = text;
}

abbrev pub pieces : List ℕ → List Token → List Piece
pieces text tokens = map (piece text) tokens

-- where the last of these tokens ends, the first one given apart
abbrev pub last_end : Piece → List Piece → ℕ
last_end t [] = t.end
last_end t (s ∷ ts) = last_end s ts

-- the text from the first of these tokens to the last, with the blanks and comments between them
abbrev pub spelling : List Piece → List ℕ
spelling [] = []
spelling (t ∷ ts) = slice_range t.source t.start (last_end t ts)
