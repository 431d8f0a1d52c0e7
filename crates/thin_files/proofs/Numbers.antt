-- The number that digits write is no less than that of the first of them.
use Rattle.std.proofs.Common.{◌≡◌, ℕ, ◌<◌, ◌≤◌, ◌+◌, ◌-◌, ◌*◌, suc, List, [], ◌∷◌, length, get_or, drop, ap, drop-cons, arith}
use Rattle.thin_files.specs.Thin.{number_from}

number_from-grows : (digits : List ℕ) (value : ℕ) → value ≤ number_from value digits
number_from-grows [] value = omega arith
number_from-grows (digit ∷ digits) value = omega (arith, number_from-grows digits (10 * value + (digit - 48)))

pub number_from-least : (digits : List ℕ) (i value number : ℕ) → i < length digits → number_from value (drop i digits) ≡ number →
    10 * value + (get_or digits i 0 - 48) ≤ number
number_from-least digits i value number within same =
    let digit = get_or digits i 0 in
    let step : number_from value (drop i digits) ≡ number_from (10 * value + (digit - 48)) (drop (suc i) digits) =
    ap (number_from value) (drop-cons digits i 0 within) in
    omega (arith, step, same, number_from-grows (drop (suc i) digits) (10 * value + (digit - 48)))
