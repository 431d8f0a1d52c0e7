-- What texts say as numbers is below their limits.
use Rattle.std.proofs.Common.{◌≡◌, refl, ℕ, ◌-◌, ◌%◌, ◌^◌, ◌<◌, ◌≤◌, Bool, true, false, not, cond, ◌&&◌, nat_eq, nat_lt, List, Option, Some, None, option_and_then, arith}
use Rattle.std.specs.Prelude.{IfSome}
use Rattle.std.proofs.lemmas.Bool.Decides.{nat_tests}
use Rattle.std.proofs.lemmas.Nat.{mod_below, pow_pos}
use Rattle.std.specs.List.{list_all}
use Rattle.std.specs.Char.{is_ascii_digit}
use Rattle.std.specs.Str.Parse.{digits_value}
use Rattle.ir_lex.specs.Names.{is_number}
use Rattle.ir_values.specs.declared.types.Width.{Width}
use Rattle.ir_numbers.specs.Numbers.{bits}
use Rattle.type_grammar.specs.Numbers.{is_negative, digits_of, below_64, magnitude, length_of, held, int_of}
use Rattle.type_grammar.specs.Left.{offset_at, offset_of}
use Rattle.sized_modules.proofs.PartLemmas.{cond_has}

-- the value, if there is one, is below the limit
abbrev pub IsBelow : ℕ → Option ℕ → Type 0
IsBelow limit o = IfSome o (λ n. n < limit)

then_has : {A B : Type 0} (P : A → Type 0) (Q : B → Type 0) (f : A → Option B) (o : Option A) → IfSome o P
    → ((a : A) → P a → IfSome (f a) Q) → IfSome (option_and_then f o) Q
then_has P Q f None has then = tt
then_has P Q f (Some a) has then = then a has

-- a number that is tested

tested_below : (limit n : ℕ) (test : Bool) → nat_lt n limit ≡ test → IsBelow limit (cond test (Some n) None)
tested_below limit n true is = grind (arith, nat_tests)
tested_below limit n false is = tt

half_below : (half limit n : ℕ) (test : Bool) → half ≤ limit → nat_lt n half ≡ test → IsBelow limit (cond test (Some n) None)
half_below half limit n true within is = grind (arith, nat_tests)
half_below half limit n false within is = tt

less_below : (limit n : ℕ) → 0 < limit → nat_eq n 0 ≡ false → limit - n < limit
less_below limit n some is = grind (arith, nat_tests)

some_tested : (limit n : ℕ) (f : ℕ → Option ℕ) (test : Bool) → nat_eq n 0 ≡ test → (nat_eq n 0 ≡ false → IsBelow limit (f n))
    → IsBelow limit (cond test None (f n))
some_tested limit n f true is below = tt
some_tested limit n f false is below = below is

-- what the digits write

magnitude_below : (bytes : List ℕ) → IsBelow (2 ^ 64) (magnitude bytes)
magnitude_below bytes =
    cond_has (IsBelow (2 ^ 64)) (list_all is_ascii_digit (digits_of bytes)) (below_64 (digits_value 10 (digits_of bytes))) None
    (tested_below (2 ^ 64) (digits_value 10 (digits_of bytes)) (nat_lt (digits_value 10 (digits_of bytes)) (2 ^ 64)) refl) tt

pub length_below : (bytes : List ℕ) → IsBelow (2 ^ 64) (length_of bytes)
length_below bytes =
    then_has (λ n. n < 2 ^ 64) (λ n. n < 2 ^ 64) (λ n. cond (is_negative bytes && not (nat_eq n 0)) None (Some n)) (magnitude bytes)
    (magnitude_below bytes) (λ n below. cond_has (IsBelow (2 ^ 64)) (is_negative bytes && not (nat_eq n 0)) None (Some n) tt below)

-- a number of a width

held_below : (width : Width) (negative : Bool) (n : ℕ) → IsBelow (2 ^ bits width) (held width negative n)
held_below width true n =
    cond_has (IsBelow (2 ^ bits width)) (nat_lt (2 ^ (bits width - 1)) n) None (Some ((2 ^ bits width - n) % 2 ^ bits width)) tt
    (mod_below (2 ^ bits width - n) (2 ^ bits width) (pow_pos (bits width)))
held_below width false n = tested_below (2 ^ bits width) n (nat_lt n (2 ^ bits width)) refl

pub int_below : (width : Width) (bytes : List ℕ) → IsBelow (2 ^ bits width) (int_of width bytes)
int_below width bytes =
    then_has (λ n. n < 2 ^ 64) (λ n. n < 2 ^ bits width) (held width (is_negative bytes)) (magnitude bytes) (magnitude_below bytes)
    (λ n below. held_below width (is_negative bytes) n)

-- an offset

offset_at_below : (negative : Bool) (n : ℕ) → nat_eq n 0 ≡ false → IsBelow (2 ^ 64) (offset_at negative n)
offset_at_below true n some =
    cond_has (IsBelow (2 ^ 64)) (nat_lt (2 ^ 63) n) None (Some (2 ^ 64 - n)) tt (less_below (2 ^ 64) n (pow_pos 64) some)
offset_at_below false n some = half_below (2 ^ 63) (2 ^ 64) n (nat_lt n (2 ^ 63)) (omega arith) refl

abbrev offset_from : Bool → ℕ → Option ℕ
offset_from negative n = cond (nat_eq n 0) None (offset_at negative n)

pub offset_below : (bytes : List ℕ) → IsBelow (2 ^ 64) (offset_of bytes)
offset_below bytes =
    cond_has (IsBelow (2 ^ 64)) (is_number (digits_of bytes)) (option_and_then (offset_from (is_negative bytes)) (magnitude bytes)) None
    (then_has (λ n. n < 2 ^ 64) (λ n. n < 2 ^ 64) (offset_from (is_negative bytes)) (magnitude bytes) (magnitude_below bytes)
    (λ n below. some_tested (2 ^ 64) n (offset_at (is_negative bytes)) (nat_eq n 0) refl (offset_at_below (is_negative bytes) n)))
    tt
