-- A map from names to the first units that define them.
use Rattle.std.specs.Prelude.{◌≡◌, ℕ, Bool, false, nat_lt, List, Option, Some, None}
use Rattle.std.specs.Ordering.{nat_cmp}
use Rattle.std.specs.Cmp.Lexicographic.{slice_cmp}
use Rattle.std.specs.BTreeMap.{BTreeMap, get_by}
use Rattle.std.specs.Borrow.{Bor}
use Rattle.ltt_base.specs.declared.refusal.Placed.{Placed}
use Rattle.ir_values.specs.declared.units.Unit as unit
use Rattle.check_names.specs.declared.spaces.Space.{Space}
use Rattle.check_names.specs.Spaces.{first_definition}

abbrev pub find : List ℕ → BTreeMap (Bor (List ℕ)) ℕ → Option ℕ
find name map = get_by (λ key. slice_cmp nat_cmp name key.now) map

-- the map finds the first unit that defines each name
abbrev pub FindsFirst : Space → List (Placed unit.Unit) → BTreeMap (Bor (List ℕ)) ℕ → Type 0
FindsFirst space us map = (name : List ℕ) → find name map ≡ first_definition space name us

-- there is a place, and it is before another
abbrev pub is_before : ℕ → Option ℕ → Bool
is_before at None = false
is_before at (Some place) = nat_lt place at
