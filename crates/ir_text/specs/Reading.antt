-- The steps of `read_units`.
use Rattle.std.specs.Prelude.{◌≡◌, ℕ, ◌<◌, ◌⊎◌, List, [], ◌∷◌, ◌++◌, drop, length, codes, Result, Ok, Err}
use Rattle.ltt_base.specs.declared.refusal.Code.{Code}
use Rattle.ltt_base.specs.declared.refusal.Code.TheVariants.{E02, E12}
use Rattle.ltt_base.specs.declared.refusal.Place.{Place}
use Rattle.ltt_base.specs.declared.refusal.Refusal.{Refusal}
use Rattle.ltt_base.specs.declared.refusal.Fault.{Fault}
use Rattle.ltt_base.specs.declared.refusal.Fault.TheVariants.{Refused, Memory}
use Rattle.ltt_base.specs.declared.refusal.Placed.{Placed}
use Rattle.ir_values.specs.declared.units.Unit.{Unit as TheUnit}
use Rattle.unit_grammar.specs.Pieces.{Piece}
use Rattle.ir_text.specs.Units.{IsTooDeep}
use Rattle.ir_text.specs.Reads.{IsNextUnit, NoUnit, Reads, StopsAt, NestsAt}

-- the fault is this refusal, unless memory is wanting
abbrev pub Refuses : Code → Place → List ℕ → Fault → Type 0
Refuses code place word (Refused refusal) = refusal ≡ record { code = code; place = place; word = word }
Refuses code place word Memory = Unit {0}

-- the refusal of a token at which no unit stands
abbrev pub no_unit : Piece → Refusal
no_unit t = record { code = E02; place = t.place; word = t.bytes }

-- the refusal of a token at which too many levels are opened
abbrev pub nesting : Piece → Refusal
nesting t = record { code = E12; place = t.place; word = codes "nesting" }

-- no unit stands at the front, or one opens too many levels, and the fault is the refusal of the first token, unless memory
-- is wanting
abbrev pub Lacks : List Piece → Fault → Type 0
Lacks [] (Refused refusal) = ⊥
Lacks (t ∷ ts) (Refused refusal) = (NoUnit (t ∷ ts) × (refusal ≡ no_unit t)) ⊎ (IsTooDeep (t ∷ ts) × (refusal ≡ nesting t))
Lacks ts Memory = Unit {0}

-- the unit at the front is read, with the rest behind it
pub record IsAdded (ts : List Piece) (old new : List (Placed TheUnit)) (rest : List Piece) : Type 0 where
  pub unit : Placed TheUnit
  pub is : IsNextUnit ts unit rest
  pub added : new ≡ old ++ unit ∷ []
  pub shorter : length rest < length ts

abbrev pub Adds : List Piece → ℕ → List (Placed TheUnit) → List (Placed TheUnit) → Result ℕ Fault → Type 0
Adds ts at old new (Ok next) = IsAdded (drop at ts) old new (drop next ts)
Adds ts at old new (Err fault) = Lacks (drop at ts) fault

-- behind some units no unit stands, or one opens too many levels, and the fault is the refusal of the token there, unless
-- memory is wanting
abbrev pub Stops : List Piece → Fault → Type 0
Stops ts (Refused refusal) = (t : Piece) × ((StopsAt ts t × (refusal ≡ no_unit t)) ⊎ (NestsAt ts t × (refusal ≡ nesting t)))
Stops ts Memory = Unit {0}

-- what the second pass answers
abbrev pub UnitsOf : List Piece → Result (List (Placed TheUnit)) Fault → Type 0
UnitsOf ts (Ok us) = Reads ts us
UnitsOf ts (Err fault) = Stops ts fault
