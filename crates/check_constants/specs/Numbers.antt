-- Numbers by their texts, and numbers with their signs.
-- Source: LLVM Language Reference, "Simple Constants". Differs: an integer type of w bits holds the numbers from -2^(w-1) to 2^w - 1.
use Rattle.std.specs.Prelude.{ℕ, ◌+◌, ◌-◌, ◌%◌, ◌^◌, Bool, true, false, ◌&&◌, cond, nat_eq, nat_le, nat_lt, min, List, [], ◌∷◌, drop, length, Option, Some, None}
use Rattle.std.specs.List.{list_all}
use Rattle.ir_names.specs.Names.{is_digit, value_of}
use Rattle.ir_values.specs.declared.types.Width.{Width}
use Rattle.ir_numbers.specs.Numbers.{bits}

-- 45 is `-`
abbrev pub is_negative : List ℕ → Bool
is_negative [] = false
is_negative (byte ∷ bytes) = nat_eq byte 45

abbrev pub digits_of : List ℕ → List ℕ
digits_of text = cond (is_negative text) (drop 1 text) text

-- digits, with `-` before them or not
unfoldable pub is_number : List ℕ → Bool
is_number text = nat_lt 0 (length (digits_of text)) && list_all is_digit (digits_of text)

-- what the digits make, but no more than 2^64, which is more than any type holds
unfoldable pub magnitude : List ℕ → ℕ
magnitude text = min (value_of (digits_of text)) (2 ^ 64)

-- n or its negative, modulo 2 to the power of k, where k bits hold it, with a sign or without
abbrev pub held : ℕ → Bool → ℕ → Option ℕ
held k true n = cond (nat_le n (2 ^ (k - 1))) (Some ((2 ^ k - n) % 2 ^ k)) None
held k false n = cond (nat_lt n (2 ^ k)) (Some n) None

-- the number that a text writes at an integer type, modulo 2 to the power of its width; None where the type can't hold it
unfoldable pub number_in : Width → List ℕ → Option ℕ
number_in width text = cond (is_number text) (held (bits width) (is_negative text) (magnitude text)) None

-- a number with its sign, as one of 64 bits
unfoldable pub extended : Width → ℕ → ℕ
extended width n = cond (nat_lt n (2 ^ (bits width - 1))) n ((n + (2 ^ 64 - 2 ^ bits width)) % 2 ^ 64)
