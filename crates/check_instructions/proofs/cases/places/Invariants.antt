use Rattle.std.proofs.Common.{◌≡◌, ℕ, drop}
use Rattle.std.specs.List.{position_from}
use Rattle.check_instructions.specs.Cases.{is_number}
use Rattle.check_instructions.specs.Places.{place_of}
use Rattle.check_instructions.proofs.cases.places.Given as goal

abbrev pub invariant-loop-at : goal.invariant-loop-at
invariant-loop-at l = (n : ℕ) → place_of n l.map ≡ position_from (is_number n) l.at (drop l.at l.numbers)
