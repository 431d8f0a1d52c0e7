-- What is known between two units of a walk over a file.
use Rattle.std.specs.Prelude.{◌≡◌, ℕ, Bool, true, false, List, Option, Some, None}
use Rattle.ltt_base.specs.declared.refusal.Placed.{Placed}
use Rattle.ir_values.specs.declared.units.Unit as unit
use Rattle.ir_values.specs.declared.units.Form.{Form}
use Rattle.ir_values.specs.declared.units.Form.TheVariants as form
use Rattle.check_bodies.specs.declared.standing.Standing.{Standing}
use Rattle.check_bodies.specs.declared.standing.Standing.TheVariants.{Outside, Inside}
use Rattle.check_names.specs.declared.flaws.Flaw.{Flaw}
use Rattle.ir_check.specs.Answers.{IsClean, IsFirstFlaw}

abbrev pub is_head : Form → Bool
is_head (form.DeclareForm head) = true
is_head (form.DefineForm head) = true
is_head _ = false

-- a head that stands outside all bodies
abbrev pub begins : Standing → Form → Bool
begins Outside form = is_head form
begins (Inside spot) form = false

-- the head of the function in which the next unit stands, if it stands in one
abbrev pub IsHeadOf : Standing → ℕ → Type 0
IsHeadOf Outside head = Unit {0}
IsHeadOf (Inside spot) head = head ≡ spot.head

-- the head of a unit's function: itself, or the one in whose body it stands
abbrev pub IsHeadAt : ℕ → Standing → Form → ℕ → Type 0
IsHeadAt at Outside form head = is_head form ≡ true → head ≡ at
IsHeadAt at (Inside spot) form head = head ≡ spot.head

-- the first flaw of a file, with its unit's place; or none
abbrev pub IsFound : Bool → List (Placed unit.Unit) → Option (ℕ × Flaw) → Type 0
IsFound output us None = IsClean output us
IsFound output us (Some found) = (u : Placed unit.Unit) × IsFirstFlaw output us found.0 u found.1

abbrev pub IsAny : {M : Type 0} → M → Type 0
IsAny value = Unit {0}
