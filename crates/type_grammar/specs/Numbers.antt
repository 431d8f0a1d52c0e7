-- What the bytes of a number say.
use Rattle.std.specs.Prelude.{ℕ, ◌-◌, ◌%◌, ◌^◌, Bool, true, false, not, cond, ◌&&◌, nat_eq, nat_lt, List, [], ◌∷◌, drop, Option, Some, None, option_and_then}
use Rattle.std.specs.List.{list_all}
use Rattle.std.specs.Char.{is_ascii_digit}
use Rattle.std.specs.Str.Parse.{digits_value}
use Rattle.ir_values.specs.declared.types.Width.{Width}
use Rattle.ir_numbers.specs.Numbers.{bits}

-- a number below 2^64
abbrev pub below_64 : ℕ → Option ℕ
below_64 n = cond (nat_lt n (2 ^ 64)) (Some n) None

-- 45 is `-`
abbrev pub is_negative : List ℕ → Bool
is_negative [] = false
is_negative (b ∷ bytes) = nat_eq b 45

abbrev pub digits_of : List ℕ → List ℕ
digits_of bytes = cond (is_negative bytes) (drop 1 bytes) bytes

-- what the digits write, where that is below 2^64
abbrev pub magnitude : List ℕ → Option ℕ
magnitude bytes = cond (list_all is_ascii_digit (digits_of bytes)) (below_64 (digits_value 10 (digits_of bytes))) None

-- the length of an array, from 0 to 2^64 - 1; `-0` is 0
abbrev pub length_of : List ℕ → Option ℕ
length_of bytes = option_and_then (λ n. cond (is_negative bytes && not (nat_eq n 0)) None (Some n)) (magnitude bytes)

-- n or its negative, modulo 2 to the power of the width, where that many bits hold it, signed or unsigned
abbrev pub held : Width → Bool → ℕ → Option ℕ
held w true n = cond (nat_lt (2 ^ (bits w - 1)) n) None (Some ((2 ^ bits w - n) % 2 ^ bits w))
held w false n = cond (nat_lt n (2 ^ bits w)) (Some n) None

abbrev pub int_of : Width → List ℕ → Option ℕ
int_of w bytes = option_and_then (held w (is_negative bytes)) (magnitude bytes)
