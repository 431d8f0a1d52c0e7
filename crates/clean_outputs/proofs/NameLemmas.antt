-- Names that a file without flaws defines or uses can be printed.
use Rattle.std.proofs.Common.{◌≡◌, sym, subst, arith, ℕ, ◌-◌, ◌^◌, ◌<◌, ◌≤◌, Bool, true, false, ◌&&◌, nat_le, if◌then◌else◌, List, length, decimal, Option, Some, None, codes}
use Rattle.std.proofs.lemmas.Bool.Decides.{nat_tests}
use Rattle.std.proofs.lemmas.Fmt.{length-decimal-le}
use Rattle.ltt_base.specs.declared.refusal.Code.TheVariants.{E07}
use Rattle.ir_names.specs.Names.{is_decimal, is_number, value_of}
use Rattle.check_names.specs.Reserved.{is_wide_number, reserved_flaw}
use Rattle.ir_names.specs.Words.{named_word}
use Rattle.check_bodies.specs.Numbers.{name_or}
use Rattle.source_runs.proofs.NumberLaws.{only_decimals_are_read}
use Rattle.printed_units.specs.Written.{IsBytes, IsName}
use Rattle.sized_modules.proofs.FlawLemmas.{unbroken_word}
use Rattle.said_units.specs.Sayable.{IsSaidName}
use Rattle.said_units.proofs.DecimalLemmas.{decimal_bytes}

-- a decimal below 2^32 has at most ten digits

small_length : (n : ℕ) → n < 2 ^ 32 → length (decimal n) ≤ 10
small_length n small = length-decimal-le 10 n (omega arith) (omega arith) (omega arith)

read_below : (name : List ℕ) (most : ℕ) → is_decimal name ≡ true → value_of name ≤ most
    → (if is_decimal name && nat_le (value_of name) most then Some (value_of name) else None) ≡ Some (value_of name)
read_below name most is small =
    choose (is_decimal name) (nat_le (value_of name) most) is (grind (arith, nat_tests)) where
      choose : (one other : Bool) → one ≡ true → other ≡ true → (if one && other then Some (value_of name) else None) ≡ Some (value_of name)
      choose one other met also = cc

short_decimal : (name : List ℕ) → is_decimal name ≡ true → value_of name < 2 ^ 32 → length name ≤ 10
short_decimal name is small =
    let read = only_decimals_are_read (2 ^ 32 - 1) (value_of name) name (omega arith) (read_below name (2 ^ 32 - 1) is (omega arith)) in
    subst (λ word. length word ≤ 10) (sym read.1) (small_length (value_of name) small)

-- a name of bytes that isn't reserved

number_of_few : (name : List ℕ) → is_decimal name ≡ true → value_of name < 2 ^ 32 → is_number name ≡ true
unfolding is_number
number_of_few name is small = let short = short_decimal name is small in grind (arith, nat_tests)

few_of_free : (decimal wide : Bool) → decimal && wide ≡ false → decimal ≡ true → wide ≡ false
few_of_free decimal wide none is = grind arith

pub free_name : (sign name : List ℕ) → IsBytes name → reserved_flaw true sign name ≡ None → IsName name
free_name sign name bytes free = record {
  bytes = bytes;
  small = λ is.
      let few = few_of_free (is_decimal name) (nat_le (2 ^ 32) (value_of name))
      (unbroken_word (is_wide_number name) E07 (named_word sign name) free) is in
      number_of_few name is (grind (arith, nat_tests, few));
}

-- a written name, or the next number
pub name_or_free : (next : ℕ) (written : Option (List ℕ)) → IsSaidName written → reserved_flaw true (codes "%") (name_or next written) ≡ None
    → IsName (name_or next written)
name_or_free next None said free = free_name (codes "%") (decimal next) (decimal_bytes next) free
name_or_free next (Some name) said free = free_name (codes "%") name said free
