-- The names of an output: those of its functions and registers, and those of its combined variables.
use Rattle.std.proofs.Common.{◌≡◌, ◌≢◌, refl, sym, ap, subst, inl, inr, arith, ℕ, ◌+◌, ◌^◌, ◌<◌, ◌≤◌, Bool, true, false, not, ◌&&◌, ◌||◌, List, [], ◌∷◌, ◌++◌, length, map, drop, bytes_eq, IsTrue}
use Rattle.std.specs.List.{list_all, list_any, AllByRecursion}
use Rattle.std.specs.Char.{is_ascii_digit}
use Rattle.std.specs.Fmt.{digits}
use Rattle.std.proofs.lemmas.Bool.Decides.{nat_tests}
use Rattle.std.proofs.lemmas.Fmt.{decimal_injective}
use Rattle.ir_names.specs.Names.{is_decimal, is_digit}
use Rattle.check_names.specs.Reserved.{is_made, is_intrinsic}
use Rattle.thin_files.specs.declared.thin.Variable.{Variable}
use Rattle.thin_files.specs.Thin.{is_free, variable_of}
use Rattle.test_lowering.specs.Rewriting.{combined_from, group_name}
use Rattle.test_lowering.proofs.PlaceLaws.{text_cases}
use Rattle.printed_units.specs.Written.{IsBytes, IsName}
use Rattle.printed_modules.specs.Printed.{AreApart}
use Rattle.said_units.proofs.DecimalLemmas.{decimal_bytes}

-- names of functions and registers

abbrev pub IsFree : List ℕ → Type 0
IsFree name = IsTrue (is_free name)

free_parts : (made intrinsic digits : Bool) → not (made || intrinsic) && not digits ≡ true → (intrinsic ≡ false) × (digits ≡ false)
free_parts false false false e = (refl, refl)
free_parts false false true e = absurd (cc)
free_parts false true digits e = absurd (cc)
free_parts true intrinsic digits e = absurd (cc)

decimal_digits : (name : List ℕ) → is_decimal name ≡ true → list_all is_ascii_digit name ≡ true
unfolding is_decimal is_digit
decimal_digits [] e = absurd (cc)
decimal_digits (c ∷ []) e = grind (arith, nat_tests)
decimal_digits (c ∷ d ∷ name) e = grind (arith, nat_tests)

pub free_name : (name : List ℕ) → IsFree name → IsBytes name → IsName name
free_name name free bytes =
    let none = (free_parts (is_made name) (is_intrinsic name) (list_all is_ascii_digit name) free).1 in
    record { bytes = bytes; small = λ e. absurd (let all = decimal_digits name e in cc) }

pub no_intrinsic : (name : List ℕ) → IsFree name → is_intrinsic name ≡ false
no_intrinsic name free = (free_parts (is_made name) (is_intrinsic name) (list_all is_ascii_digit name) free).0

-- names of combined variables

pub group_is_name : (group : ℕ) → IsName (group_name group)
unfolding is_decimal is_digit
group_is_name group = record { bytes = decimal_bytes group; small = λ e. absurd (cc) }

one_group : (i j : ℕ) → i < 2 ^ 64 → j < 2 ^ 64 → group_name i ≡ group_name j → i ≡ j
one_group i j small other same = decimal_injective i j small other (ap (drop 8) same)

-- names that differ

pub differ : (a b : List ℕ) → a ≢ b → bytes_eq a b ≡ false
differ a b other = elim (text_cases a b) [ inl same ↦ absurd (other same.1) | inr told ↦ told.0 ]

group_not_free : (group : ℕ) (name : List ℕ) → IsFree name → group_name group ≢ name
group_not_free group name free same = let made : IsFree (group_name group) = subst IsFree (sym same) free in cc

not_free : (group : ℕ) (names : List (List ℕ)) → AllByRecursion IsFree names → list_any (bytes_eq (group_name group)) names ≡ false
not_free group [] free = refl
not_free group (name ∷ names) free =
    rw (differ (group_name group) name (group_not_free group name free.0)) (not_free group names free.1)

-- the names of the combined variables from a number on, and of what stands behind them
abbrev pub names_from : ℕ → List Variable → List (List ℕ) → List (List ℕ)
names_from group vs names = (map (λ v. v.name) (combined_from group (map variable_of vs)) ++ []) ++ names

not_later : (i group : ℕ) (vs : List Variable) (names : List (List ℕ)) → i < group → group + length vs ≤ 2 ^ 64
    → AllByRecursion IsFree names → list_any (bytes_eq (group_name i)) (names_from group vs names) ≡ false
not_later i group [] names before few free = not_free i names free
not_later i group (v ∷ vs) names before few free =
    let other : i ≡ group → ⊥ = λ same. omega (arith, before, same) in
    rw (differ (group_name i) (group_name group) (λ same. other (one_group i group (omega (arith, before, few)) (omega (arith, few)) same)))
    (not_later i (group + 1) vs names (omega (arith, before)) (omega (arith, few)) free)

pub names_apart : (group : ℕ) (vs : List Variable) (names : List (List ℕ)) → group + length vs ≤ 2 ^ 64 → AllByRecursion IsFree names
    → AreApart names → AreApart (names_from group vs names)
names_apart group [] names few free apart = apart
names_apart group (v ∷ vs) names few free apart = (
  not_later group (group + 1) vs names (omega arith) (omega (arith, few)) free,
  names_apart (group + 1) vs names (omega (arith, few)) free apart,
)
