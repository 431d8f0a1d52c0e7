-- The units of a list of tokens.
use Rattle.std.specs.Prelude.{◌≡◌, List, [], ◌∷◌}
use Rattle.ltt_base.specs.declared.refusal.Place.{Place}
use Rattle.ltt_base.specs.declared.refusal.Placed.{Placed}
use Rattle.ir_values.specs.declared.units.Unit.{Unit as TheUnit}
use Rattle.unit_grammar.specs.Pieces.{Piece}
use Rattle.unit_grammar.specs.Longest.{IsLongest, NoneBegins}
use Rattle.ir_text.specs.Units.{IsUnit, IsUnitWithin, IsTooDeep}

-- the place of the first token
abbrev pub StandsAt : List Piece → Place → Type 0
StandsAt [] place = ⊥
StandsAt (t ∷ ts) place = place ≡ t.place

-- The unit at the front of the tokens, with the place of its first token, and the rest. Of the texts of units with any
-- number of levels its text is the longest, and it has no more levels than may be.
pub record IsNextUnit (ts : List Piece) (u : Placed TheUnit) (rest : List Piece) : Type 0 where
  pub longest : IsLongest IsUnitWithin IsUnit ts u.value rest
  pub place : StandsAt ts u.place
  pub flat : IsTooDeep ts → ⊥

-- no text of a unit stands at the front of the tokens, with any number of levels
pub record NoUnit (ts : List Piece) : Type 0 where
  pub none : NoneBegins IsUnit ts
  pub flat : IsTooDeep ts → ⊥

-- the units stand in order at the front of the tokens, and the rest is left
abbrev pub ReadsTo : List Piece → List (Placed TheUnit) → List Piece → Type 0
ReadsTo ts [] rest = ts ≡ rest
ReadsTo ts (u ∷ us) rest = (behind : List Piece) × IsNextUnit ts u behind × ReadsTo behind us rest

-- the tokens are the units in order
abbrev pub Reads : List Piece → List (Placed TheUnit) → Type 0
Reads ts us = ReadsTo ts us []

-- behind some units, this token and those that follow it are so
abbrev pub ReadsUpTo : (List Piece → Type 0) → List Piece → Piece → Type 0
ReadsUpTo P ts t = (us : List (Placed TheUnit)) × (rest : List Piece) × ReadsTo ts us (t ∷ rest) × P (t ∷ rest)

-- behind some units, no unit stands at this token
abbrev pub StopsAt : List Piece → Piece → Type 0
StopsAt = ReadsUpTo NoUnit

-- behind some units, a unit that begins at this token opens too many levels
abbrev pub NestsAt : List Piece → Piece → Type 0
NestsAt = ReadsUpTo IsTooDeep
