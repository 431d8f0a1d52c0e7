-- Marks on units, by which names are found whose replacing ends.
use Rattle.std.specs.Prelude.{◌≡◌, ℕ, suc, ◌-◌, ◌<◌, ◌≤◌, Bool, true, false, not, cond, ◌&&◌, List, length, get_or, slice_get, slice_set, [], ◌∷◌, Option, Some, None}
use Rattle.ltt_base.specs.declared.refusal.Placed.{Placed}
use Rattle.ir_values.specs.declared.types.Ty.{Ty, fold-Ty}
use Rattle.ir_values.specs.declared.units.Unit as unit
use Rattle.check_names.specs.declared.spaces.Space.TheVariants.{Types}
use Rattle.check_names.specs.Spaces.{first_definition}
use Rattle.check_types.specs.Named.{type_of, each_name, ends}
use Rattle.check_types.specs.Measures.{Measure, single, measure_step, option_measure, named_measure}

-- the type that the unit at a place gives to its name
abbrev pub type_at : List (Placed unit.Unit) → ℕ → Option Ty
type_at us at = type_of (slice_get us at)

abbrev pub mark_at : List Bool → Option ℕ → Bool
mark_at marks None = true
mark_at marks (Some at) = get_or marks at false

-- no unit defines the name, or the first that does is marked
unfoldable pub is_marked : List (Placed unit.Unit) → List Bool → List ℕ → Bool
is_marked us marks name = mark_at marks (first_definition Types name us)

-- a unit that isn't marked, and each name in its type is
unfoldable pub is_due : List (Placed unit.Unit) → List Bool → ℕ → Bool
is_due us marks at = not (get_or marks at false) && each_name (is_marked us marks) (type_at us at)

-- the marks behind a visit to a unit
unfoldable pub visited : List (Placed unit.Unit) → List Bool → ℕ → List Bool
visited us marks at = cond (is_due us marks at) (slice_set marks at true) marks

unfoldable pub marked_count : List Bool → ℕ
marked_count [] = 0
marked_count (true ∷ marks) = suc (marked_count marks)
marked_count (false ∷ marks) = marked_count marks

-- what is marked ends within as many rounds as there are marks
abbrev pub AreSound : List (Placed unit.Unit) → List Bool → Type 0
AreSound us marks = (at : ℕ) → get_or marks at false ≡ true → each_name (ends us (marked_count marks - 1)) (type_at us at) ≡ true

-- no unit before a place is due
abbrev pub AreDone : List (Placed unit.Unit) → List Bool → ℕ → Type 0
AreDone us marks n = (at : ℕ) → at < n → is_due us marks at ≡ false

-- the marks tell which names end
abbrev pub TellEnds : List (Placed unit.Unit) → List Bool → Type 0
TellEnds us marks = (name : List ℕ) → is_marked us marks name ≡ ends us (length us) name

-- what a pass over the units before a place has made of old marks
pub record Passing (us : List (Placed unit.Unit)) (old marks : List Bool) (changed : Bool) (at : ℕ) : Type 0 where
  pub size : length marks ≡ length us
  pub sound : AreSound us marks
  pub more : marked_count old ≤ marked_count marks
  pub grows : changed ≡ true → marked_count old < marked_count marks
  pub done : changed ≡ false → AreDone us marks at

-- the measures of the units' types; `single 0 1` where a unit isn't marked
abbrev pub measure_at : List (Option Measure) → Option ℕ → Option Measure
measure_at measures None = single 0 1
measure_at measures (Some at) = get_or measures at (single 0 1)

-- the measure of what a name stands for
unfoldable pub table_measure : List (Placed unit.Unit) → List (Option Measure) → List ℕ → Option Measure
table_measure us measures name = measure_at measures (first_definition Types name us)

-- the measure of a type, by a table
abbrev pub table_measure_of : List (Placed unit.Unit) → List (Option Measure) → Ty → Option Measure
table_measure_of us measures = fold-Ty (Option Measure) (measure_step (table_measure us measures))

-- the measures behind a visit to a unit
unfoldable pub measures_visited : List (Placed unit.Unit) → List Bool → List (Option Measure) → ℕ → List (Option Measure)
measures_visited us marks measures at =
    cond (is_due us marks at) (slice_set measures at (option_measure (table_measure us measures) (type_at us at))) measures

abbrev pub measure_here : List (Placed unit.Unit) → List Bool → ℕ → Option Measure
measure_here us marks at = cond (get_or marks at false) (option_measure (named_measure us) (type_at us at)) (single 0 1)

-- the units that are marked have the measures of their types
pub record AreMeasured (us : List (Placed unit.Unit)) (marks : List Bool) (measures : List (Option Measure)) : Type 0 where
  pub size : length measures ≡ length us
  pub each : (at : ℕ) → get_or measures at (single 0 1) ≡ measure_here us marks at

-- the measures tell those of all names
abbrev pub TellMeasures : List (Placed unit.Unit) → List (Option Measure) → Type 0
TellMeasures us measures = (name : List ℕ) → table_measure us measures name ≡ named_measure us name
