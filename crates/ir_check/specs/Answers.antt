-- The answer of a check: no unit has a flaw, or the first that has one is refused.
use Rattle.std.specs.Prelude.{◌≡◌, ℕ, ◌<◌, Bool, List, length, slice_get, Option, Some, None, Result, Ok, Err}
use Rattle.ltt_base.specs.declared.refusal.Placed.{Placed}
use Rattle.ltt_base.specs.declared.refusal.Refusal.{Refusal}
use Rattle.ltt_base.specs.declared.refusal.Fault.{Fault}
use Rattle.ltt_base.specs.declared.refusal.Fault.TheVariants.{Refused, Memory}
use Rattle.ir_values.specs.declared.units.Unit as unit
use Rattle.check_names.specs.declared.flaws.Flaw.{Flaw}
use Rattle.ir_check.specs.Units.{unit_flaw}

-- no unit before a place has a flaw
abbrev pub IsCleanTo : Bool → List (Placed unit.Unit) → ℕ → Type 0
IsCleanTo output us n = (at : ℕ) (u : Placed unit.Unit) → at < n → slice_get us at ≡ Some u → unit_flaw output us at u ≡ None

-- no unit of a file has a flaw
abbrev pub IsClean : Bool → List (Placed unit.Unit) → Type 0
IsClean output us = IsCleanTo output us (length us)

-- the unit at a place is the first with a flaw, and this one is what counts of it
pub record IsFirstFlaw (output : Bool) (us : List (Placed unit.Unit)) (at : ℕ) (u : Placed unit.Unit) (flaw : Flaw) : Type 0 where
  pub stands : slice_get us at ≡ Some u
  pub is : unit_flaw output us at u ≡ Some flaw
  pub clean : IsCleanTo output us at

-- a flaw without a word of its own shows its unit's first token
abbrev pub word_of : Option (List ℕ) → List ℕ → List ℕ
word_of None first = first
word_of (Some word) first = word

abbrev pub refusal_of : Placed unit.Unit → Flaw → Refusal
refusal_of u flaw = record { code = flaw.code; place = u.place; word = word_of flaw.name u.value.first }

-- the refusal of the first unit with a flaw
abbrev pub IsRefused : Bool → List (Placed unit.Unit) → Refusal → Type 0
IsRefused output us refusal =
    (at : ℕ) × (u : Placed unit.Unit) × (flaw : Flaw) × IsFirstFlaw output us at u flaw × (refusal ≡ refusal_of u flaw)

-- a value that is what it is to be exactly where no unit has a flaw, or else the refusal; or memory was wanted
abbrev pub Answers : {M : Type 0} → (M → Type 0) → Bool → List (Placed unit.Unit) → Result M Fault → Type 0
Answers Is output us (Ok value) = IsClean output us × Is value
Answers Is output us (Err (Refused refusal)) = IsRefused output us refusal
Answers Is output us (Err Memory) = Unit {0}
