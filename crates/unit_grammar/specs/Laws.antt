-- What holds of every part.
use Rattle.std.specs.Prelude.{◌≡◌, true, false}
use Rattle.unit_grammar.specs.Pieces.{Piece}
use Rattle.unit_grammar.specs.Signs.{Sign, passes, apart}

-- no token passes two signs that are apart
abbrev pub SignsApart : Type 0
SignsApart = (s r : Sign) (t : Piece) → apart s r ≡ true → passes s t ≡ true → passes r t ≡ false
