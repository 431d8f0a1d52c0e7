-- What a reader and the texts of its part owe one another.
use Rattle.std.specs.Prelude.{◌≡◌, ◌⊎◌, ◌<◌, Bool, true, false, List, [], ◌++◌, length}
use Rattle.unit_grammar.specs.Pieces.{Piece}
use Rattle.unit_grammar.specs.Signs.{Start, begins_any}
use Rattle.unit_grammar.specs.Readers.{Read, found, absent, deep}

-- a text of the part stands in front, and the rest follows it
pub record IsFront {A : Type 0} (P : List Piece → A → Type 0) (ts : List Piece) (a : A) (rest : List Piece) : Type 0 where
  pub front : List Piece
  pub is : P front a
  pub splits : ts ≡ front ++ rest

-- this text is found, or one is opened too deep where D allows it
abbrev pub Finds : {A : Type 0} → Type 0 → Read A → A → List Piece → Type 0
Finds D (found b after) a rest = (b ≡ a) × (after ≡ rest)
Finds D absent a rest = ⊥
Finds D deep a rest = D

-- this text is found or a longer one, or one is opened too deep
abbrev pub Reaches : {A : Type 0} → Read A → A → List Piece → Type 0
Reaches (found b after) a rest = (length after < length rest) ⊎ ((b ≡ a) × (after ≡ rest))
Reaches absent a rest = ⊥
Reaches deep a rest = Unit {0}

-- A reader of the texts P, which are some of the texts Q: those in which no named part is opened too deep. O tells of
-- tokens that one is. S are the beginnings of the texts, and M of what could make one longer; `empty` tells whether
-- nothing is a text.
pub record Exact {A : Type 0} (P Q : List Piece → A → Type 0) (D : Type 0) (O : List Piece → Type 0) (p : List Piece → Read A)
    (S M : List Start) (empty : Bool) : Type 0 where
  pub sound : (ts rest : List Piece) (a : A) → p ts ≡ found a rest → IsFront P ts a rest
  pub opened : (ts : List Piece) → p ts ≡ deep → O ts
  pub within : (ts : List Piece) (a : A) → P ts a → Q ts a
  pub starts : (ts : List Piece) (a : A) → Q ts a → ((ts ≡ []) × (empty ≡ true)) ⊎ (begins_any S ts ≡ true)
  pub finds : (front rest : List Piece) (a : A) → Q front a → begins_any M rest ≡ false → Finds D (p (front ++ rest)) a rest
  pub reaches : (front rest : List Piece) (a : A) → Q front a → Reaches (p (front ++ rest)) a rest
  pub absent_at : (ts : List Piece) → empty ≡ false → begins_any S ts ≡ false → p ts ≡ absent
  pub never_absent : (ts : List Piece) → empty ≡ true → p ts ≡ absent → ⊥
  pub deep_starts : (ts : List Piece) → p ts ≡ deep → begins_any S ts ≡ true
