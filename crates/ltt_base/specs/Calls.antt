-- Counts of calls and of faults.
use Rattle.std.specs.Prelude.{ℕ, ◌+◌, ◌-◌, ◌^◌, min, Bool, ◌==◌, List}
use Rattle.std.specs.List.{list_any}

-- a count is one greater, up to the last value of a u64
abbrev pub up : ℕ → ℕ
up count = min (count + 1) (2 ^ 64 - 1)

-- whether the call of this number is one of those that fail
abbrev pub fails : List ℕ → ℕ → Bool
fails calls number = list_any (λ call. call == number) calls
