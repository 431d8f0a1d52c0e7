-- What holds of every list of tokens.
use Rattle.std.specs.Prelude.{◌≡◌, ℕ, List}
use Rattle.unit_grammar.specs.Pieces.{Piece}
use Rattle.unit_grammar.specs.Readers.{deep}
use Rattle.type_grammar.specs.Levels.{OpensAt}
use Rattle.type_grammar.specs.Names.{Name}
use Rattle.type_grammar.specs.Reading.{reads}

-- where one level more is opened than may be, that is what the reader computes
abbrev pub OpenedIsTold : Type 0
OpenedIsTold = (n : ℕ) (x : Name) (ts : List Piece) → OpensAt n x ts → reads n x ts ≡ deep
