-- What holds of every text, and of every list of tokens.
use Rattle.std.specs.Prelude.{◌≡◌, ℕ, List}
use Rattle.ltt_base.specs.declared.refusal.Refusal.{Refusal}
use Rattle.ltt_base.specs.declared.refusal.Placed.{Placed}
use Rattle.ir_values.specs.declared.units.Unit.{Unit as TheUnit}
use Rattle.unit_grammar.specs.Pieces.{Piece}
use Rattle.ir_text.specs.Reads.{Reads, StopsAt, NestsAt}
use Rattle.ir_text.specs.Answers.{IsRead, IsRefused}

-- a list of tokens is at most one list of units
abbrev pub UnitsAgree : Type 0
UnitsAgree = (ts : List Piece) (us vs : List (Placed TheUnit)) → Reads ts us → Reads ts vs → us ≡ vs

-- one that is read doesn't stop
abbrev pub UnitsEnd : Type 0
UnitsEnd = (ts : List Piece) (us : List (Placed TheUnit)) (t : Piece) → Reads ts us → StopsAt ts t → ⊥

-- and nests nowhere too deep
abbrev pub UnitsAreFlat : Type 0
UnitsAreFlat = (ts : List Piece) (us : List (Placed TheUnit)) (t : Piece) → Reads ts us → NestsAt ts t → ⊥

-- one that stops does so at one token
abbrev pub StopsAgree : Type 0
StopsAgree = (ts : List Piece) (t other : Piece) → StopsAt ts t → StopsAt ts other → t ≡ other

-- one that nests too deep does so first at one token
abbrev pub NestsAgree : Type 0
NestsAgree = (ts : List Piece) (t other : Piece) → NestsAt ts t → NestsAt ts other → t ≡ other

-- and doesn't stop
abbrev pub NestsNeverStop : Type 0
NestsNeverStop = (ts : List Piece) (t other : Piece) → NestsAt ts t → StopsAt ts other → ⊥

-- a text has at most one list of units
abbrev pub ReadingsAgree : Type 0
ReadingsAgree = (file : ℕ) (text : List ℕ) (us vs : List (Placed TheUnit)) → IsRead file text us → IsRead file text vs → us ≡ vs

-- a text that has units isn't refused
abbrev pub ReadingsEnd : Type 0
ReadingsEnd = (file : ℕ) (text : List ℕ) (us : List (Placed TheUnit)) (refusal : Refusal) → IsRead file text us → IsRefused file text refusal → ⊥

-- a text has at most one refusal
abbrev pub RefusalsAgree : Type 0
RefusalsAgree = (file : ℕ) (text : List ℕ) (refusal other : Refusal) → IsRefused file text refusal → IsRefused file text other → refusal ≡ other
