-- The different identifiers that were found so far, as a set.
use Rattle.std.specs.Prelude.{◌≡◌, ℕ, Bool, List}
use Rattle.std.specs.Ordering.{nat_cmp}
use Rattle.std.specs.Cmp.Lexicographic.{slice_cmp}
use Rattle.std.specs.BTreeSet.{BTreeSet, contains}
use Rattle.std.specs.Set.{is_member}
use Rattle.std.specs.Str.{bytes_eq}

abbrev pub has : List ℕ → BTreeSet (List ℕ) → Bool
has name found = contains (slice_cmp nat_cmp) found name

abbrev pub is_in : List ℕ → List (List ℕ) → Bool
is_in name names = is_member bytes_eq names name

-- the set has the names of a list and no others
abbrev pub Holds : List (List ℕ) → BTreeSet (List ℕ) → Type 0
Holds names found = (name : List ℕ) → has name found ≡ is_in name names
