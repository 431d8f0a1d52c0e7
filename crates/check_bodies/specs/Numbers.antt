-- The numbers that unnamed values and blocks take.
-- Source: LLVM Language Reference, "Identifiers". Differs: a written number makes the next one greater, and need not be the next itself;
-- numbers count to 2^32, since a name of that number or more is left out.
use Rattle.std.specs.Prelude.{ℕ, ◌+◌, ◌-◌, ◌*◌, ◌^◌, nat_lt, cond, min, max, List, [], ◌∷◌, Option, Some, None}
use Rattle.std.specs.Prelude.{decimal}
use Rattle.ir_names.specs.Names.{is_decimal}
use Rattle.ir_values.specs.declared.units.Param.{Param}

-- the number at which the count ends
unfoldable pub most : ℕ
most = 4294967296

-- one more, but no more than that
abbrev pub up : ℕ → ℕ
up n = cond (nat_lt n most) (n + 1) most

-- what digits behind a number make of it, but no more than that
abbrev pub with_digit : ℕ → ℕ → ℕ
with_digit n digit = min (n * 10 + (digit - 48)) most

abbrev pub with_digits : ℕ → List ℕ → ℕ
with_digits n [] = n
with_digits n (digit ∷ digits) = with_digits (with_digit n digit) digits

-- the next number behind a written name: one of digits makes it greater than theirs
abbrev pub taken : ℕ → List ℕ → ℕ
taken next name = cond (is_decimal name) (max next (up (with_digits 0 name))) next

-- the next number behind a name that is written or else takes the next number
abbrev pub behind_name : ℕ → Option (List ℕ) → ℕ
behind_name next None = up next
behind_name next (Some name) = taken next name

-- the name itself: the written one, or else the next number
abbrev pub name_or : ℕ → Option (List ℕ) → List ℕ
name_or next None = decimal next
name_or next (Some name) = name

-- the next number behind parameters
abbrev pub behind_parameters : ℕ → List Param → ℕ
behind_parameters next [] = next
behind_parameters next (param ∷ params) = behind_parameters (behind_name next param.name) params
