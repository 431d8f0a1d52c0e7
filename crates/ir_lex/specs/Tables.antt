-- Lists of words in the order of their bytes.
use Rattle.std.specs.Prelude.{ℕ, Bool, true, ◌&&◌, IsTrue, List, [], ◌∷◌, bytes_eq}
use Rattle.std.specs.List.{list_all, list_any}
use Rattle.std.specs.Ordering.{is_lt, nat_cmp}
use Rattle.std.specs.Cmp.Lexicographic.{slice_cmp}

-- each word stands before the next in the order of bytes
abbrev pub is_ascending : List (List ℕ) → Bool
is_ascending [] = true
is_ascending (word ∷ []) = true
is_ascending (word ∷ other ∷ words) = is_lt (slice_cmp nat_cmp word other) && is_ascending (other ∷ words)

-- a table's words stand in the order of their bytes, so that none stands twice
abbrev pub IsAscending : List (List ℕ) → Type 0
IsAscending words = IsTrue (is_ascending words)

-- each of these words is one of the others
abbrev pub is_within : List (List ℕ) → List (List ℕ) → Bool
is_within words others = list_all (λ word. list_any (bytes_eq word) others) words

-- two lists have the same words
abbrev pub HaveSameWords : List (List ℕ) → List (List ℕ) → Type 0
HaveSameWords words others = IsTrue (is_within words others && is_within others words)
