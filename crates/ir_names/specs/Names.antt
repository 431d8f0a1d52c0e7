-- How a name and a text of bytes are printed.
use Rattle.std.specs.Prelude.{ℕ, ◌+◌, ◌-◌, ◌*◌, ◌/◌, ◌%◌, ◌^◌, Bool, true, false, ◌&&◌, ◌||◌, not, ◌==◌, nat_lt, nat_le, if◌then◌else◌, List, [], ◌∷◌, ◌++◌, length, slice_index, codes, fold, flat_map}
use Rattle.std.specs.List.{list_all}
use Rattle.std.specs.Fmt.{digit_glyph}

-- `0` to `9`
unfoldable pub is_digit : ℕ → Bool
is_digit c = nat_le 48 c && nat_le c 57

-- a letter, `-`, `$`, `.` or `_`
unfoldable pub is_name_start : ℕ → Bool
is_name_start c = (nat_le 65 c && nat_le c 90) || (nat_le 97 c && nat_le c 122) || (c == 45) || (c == 36) || (c == 46) || (c == 95)

unfoldable pub is_name_byte : ℕ → Bool
is_name_byte c = is_name_start c || is_digit c

-- a name that needs no quotes, and that no digit begins
unfoldable pub is_bare : List ℕ → Bool
is_bare name = nat_lt 0 (length name) && is_name_start (slice_index name 0) && list_all is_name_byte name

-- digits, of which the first is no `0` but in `0` alone
unfoldable pub is_decimal : List ℕ → Bool
is_decimal [] = false
is_decimal (c ∷ []) = is_digit c
is_decimal (c ∷ cs) = not (c == 48) && list_all is_digit (c ∷ cs)

-- the number that the digits of a decimal make
abbrev pub value_of : List ℕ → ℕ
value_of = fold (λ value digit. value * 10 + (digit - 48)) 0

-- a decimal below 2^32, which has at most ten digits
unfoldable pub is_number : List ℕ → Bool
is_number name = is_decimal name && nat_le (length name) 10 && nat_lt (value_of name) (2 ^ 32)

-- a byte from 32 to 126 that is neither `"` nor `\`
unfoldable pub is_plain : ℕ → Bool
is_plain c = nat_le 32 c && nat_le c 126 && not (c == 34) && not (c == 92)

-- the byte itself, or `\` and two hexadecimal digits in upper case
abbrev pub escape : ℕ → List ℕ
escape c = if is_plain c then c ∷ [] else 92 ∷ digit_glyph true (c / 16) ∷ digit_glyph true (c % 16) ∷ []

-- a text between quotes
abbrev pub quoted : List ℕ → List ℕ
quoted text = codes "\"" ++ flat_map escape text ++ codes "\""

-- a name behind its sign
unfoldable pub name_text : List ℕ → List ℕ
name_text name = if is_bare name || is_number name then name else quoted name

-- a global, and a register
abbrev pub global_text : List ℕ → List ℕ
global_text name = codes "@" ++ name_text name

abbrev pub local_text : List ℕ → List ℕ
local_text name = codes "%" ++ name_text name
