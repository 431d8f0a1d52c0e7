-- Pairs of a key and a number, in rising order of the key, and of the number on a tie.
use Rattle.std.specs.Prelude.{ℕ, Bool, ◌&&◌, ◌||◌, List, [], ◌∷◌, ◌==◌, nat_lt, if◌then◌else◌}

abbrev pub comes_before : ℕ × ℕ → ℕ × ℕ → Bool
comes_before one other = nat_lt one.0 other.0 || (one.0 == other.0 && nat_lt one.1 other.1)

-- a pair put behind all that come before it
abbrev pub put_among : ℕ × ℕ → List (ℕ × ℕ) → List (ℕ × ℕ)
put_among pair [] = pair ∷ []
put_among pair (other ∷ more) = if comes_before other pair then other ∷ put_among pair more else pair ∷ other ∷ more

abbrev pub ordered : List (ℕ × ℕ) → List (ℕ × ℕ)
ordered [] = []
ordered (pair ∷ more) = put_among pair (ordered more)
