-- The texts of a form.
use Rattle.unit_grammar.specs.Pieces.{Piece}
use Rattle.unit_grammar.specs.Grammar.{Text, Is, Opens}
use Rattle.type_grammar.specs.Levels.{IsAt, IsAny, OpensAt, levels}
use Rattle.type_grammar.specs.Types.{IsPart}
use Rattle.std.specs.Prelude.{List}

-- whose types and constants have at most so many levels as may be
abbrev pub IsForm : {A : Type 0} → IsPart A → Text A
IsForm g = Is (IsAt levels) g

-- of any number of levels
abbrev pub IsAnyForm : {A : Type 0} → IsPart A → Text A
IsAnyForm g = Is IsAny g

-- a type or a constant is opened one level deeper than may be
abbrev pub OpensForm : {A : Type 0} → IsPart A → List Piece → Type 0
OpensForm g = Opens (IsAt levels) (OpensAt levels) g
