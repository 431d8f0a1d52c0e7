-- What the rotated comparison of a distance means.
use Rattle.std.specs.Prelude.{◌≡◌, ℕ, ◌*◌, ◌^◌, ◌≤◌}

-- x is a multiple of the step, at most `size_m1` of them
abbrev pub IsOnStep : ℕ → ℕ → ℕ → Type 0
IsOnStep x align size_m1 = (j : ℕ) × (j ≤ size_m1) × (x ≡ j * 2 ^ align)
