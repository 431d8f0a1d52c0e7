-- Maps from numbers, or labels, to the first places where they stand.
use Rattle.std.specs.Prelude.{◌≡◌, ℕ, List, Option}
use Rattle.std.specs.List.{position_from}
use Rattle.std.specs.Ordering.{nat_cmp}
use Rattle.std.specs.Cmp.Lexicographic.{slice_cmp}
use Rattle.std.specs.BTreeMap.{BTreeMap, get, get_by}
use Rattle.std.specs.Borrow.{Bor}
use Rattle.check_instructions.specs.Cases.{is_number}
use Rattle.check_instructions.specs.Phis.{has_label}
use Rattle.kept_parts.specs.Arms.{Arm}

abbrev pub place_of : ℕ → BTreeMap ℕ ℕ → Option ℕ
place_of n map = get nat_cmp map n

-- the map has the first place of each number
abbrev pub FindsPlaces : List (Option ℕ) → BTreeMap ℕ ℕ → Type 0
FindsPlaces ns map = (n : ℕ) → place_of n map ≡ position_from (is_number n) 0 ns

abbrev pub arm_place : List ℕ → BTreeMap (Bor (List ℕ)) ℕ → Option ℕ
arm_place label map = get_by (λ key. slice_cmp nat_cmp label key.now) map

-- the map has the place of the first arm with each label
abbrev pub FindsArms : List Arm → BTreeMap (Bor (List ℕ)) ℕ → Type 0
FindsArms arms map = (label : List ℕ) → arm_place label map ≡ position_from (has_label label) 0 arms
