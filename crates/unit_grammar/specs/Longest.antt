-- The longest text at the front of tokens.
use Rattle.std.specs.Prelude.{◌≡◌, ◌⊎◌, ◌<◌, List, length}
use Rattle.unit_grammar.specs.Pieces.{Piece}
use Rattle.unit_grammar.specs.Exact.{IsFront}

-- A text P stands in front and says the value, and the rest follows it. Of all the texts Q it is the longest, and no other is as long.
pub record IsLongest {A : Type 0} (P Q : List Piece → A → Type 0) (ts : List Piece) (a : A) (rest : List Piece) : Type 0 where
  pub stands : IsFront P ts a rest
  pub longest : (b : A) (after : List Piece) → IsFront Q ts b after → (length rest < length after) ⊎ ((a ≡ b) × (rest ≡ after))

-- none of the texts stands in front
abbrev pub NoneBegins : {A : Type 0} → (List Piece → A → Type 0) → List Piece → Type 0
NoneBegins {A} Q ts = (a : A) → (rest : List Piece) → IsFront Q ts a rest → ⊥
