-- The numbers that k bits stand for: from 0 to 2^k - 1, or in two's complement from -2^(k-1) to 2^(k-1) - 1.
use Rattle.std.specs.Prelude.{ℕ, ◌-◌, ◌^◌, nat_lt, Bool, ◌&&◌, if◌then◌else◌, ℤ, pos, neg_ℤ, ◌-ℤ◌, int_le, int_lt, unsigned_abs}
use Rattle.std.specs.Int.{int_rem_euclid}
use Rattle.ir_values.specs.declared.types.Width.{Width}

-- how many bits a width has
abbrev pub bits : Width → ℕ
bits Width.W1 = 1
bits Width.W8 = 8
bits Width.W16 = 16
bits Width.W32 = 32
bits Width.W64 = 64

-- the number that n stands for where the highest of its k bits is the sign
abbrev pub signed : ℕ → ℕ → ℤ
signed k n = if nat_lt n (2 ^ (k - 1)) then pos n else pos n -ℤ pos (2 ^ k)

-- z modulo 2^k
abbrev pub wrapped : ℕ → ℤ → ℕ
wrapped k z = unsigned_abs (int_rem_euclid z (pos (2 ^ k)))

-- z is a signed number of k bits
abbrev pub fits : ℕ → ℤ → Bool
fits k z = int_le (neg_ℤ (pos (2 ^ (k - 1)))) z && int_lt z (pos (2 ^ (k - 1)))
