-- What the grammar sees of tokens: kind, bytes, and whether a line ends before one.
use Rattle.std.specs.Prelude.{ℕ, Bool, false, ◌||◌, List, [], ◌∷◌}
use Rattle.std.specs.List.{list_any}
use Rattle.ir_lex.specs.declared.token.Kind.{Kind}
use Rattle.ir_lex.specs.Letters.{is_line_end}
use Rattle.ir_lex.specs.Places.{breaks_line}
use Rattle.unit_grammar.specs.Pieces.{Piece}
use Rattle.printed_tokens.specs.Atoms.{Atom, blank, a_token}

pub record Look : Type 0 where
  pub kind : Kind
  pub bytes : List ℕ
  pub first : Bool

-- the looks of tokens, where the one before them ends at an offset
abbrev pub looks : ℕ → List Piece → List Look
looks end [] = []
looks end (t ∷ ts) = record { kind = t.kind; bytes = t.bytes; first = breaks_line t.source end t.start } ∷ looks t.end ts

-- the looks of the tokens among atoms, where `broke` tells whether a line ended since the token before them
abbrev pub looks_of : Bool → List Atom → List Look
looks_of broke [] = []
looks_of broke (blank bytes ∷ atoms) = looks_of (broke || list_any is_line_end bytes) atoms
looks_of broke (a_token kind bytes ∷ atoms) = record { kind = kind; bytes = bytes; first = broke } ∷ looks_of false atoms

-- kind and bytes alone
pub record Seen : Type 0 where
  pub kind : Kind
  pub bytes : List ℕ

abbrev pub seen : List Piece → List Seen
seen [] = []
seen (t ∷ ts) = record { kind = t.kind; bytes = t.bytes } ∷ seen ts

abbrev pub seen_of : List Atom → List Seen
seen_of [] = []
seen_of (blank bytes ∷ atoms) = seen_of atoms
seen_of (a_token kind bytes ∷ atoms) = record { kind = kind; bytes = bytes } ∷ seen_of atoms
