-- Sets of labels.
use Rattle.std.specs.Prelude.{◌≡◌, ℕ, List, Option, is_some}
use Rattle.std.specs.List.{list_any}
use Rattle.std.specs.Str.{bytes_eq}
use Rattle.std.specs.Ordering.{nat_cmp}
use Rattle.std.specs.Cmp.Lexicographic.{slice_cmp}
use Rattle.std.specs.BTreeMap.{BTreeMap, get_by}
use Rattle.std.specs.Borrow.{Bor}

abbrev pub place_in : List ℕ → BTreeMap (Bor (List ℕ)) ℕ → Option ℕ
place_in label map = get_by (λ key. slice_cmp nat_cmp label key.now) map

-- the map has a place for each of these labels, and for no other
abbrev pub Holds : List (List ℕ) → BTreeMap (Bor (List ℕ)) ℕ → Type 0
Holds labels map = (label : List ℕ) → is_some (place_in label map) ≡ list_any (λ other. bytes_eq other label) labels
