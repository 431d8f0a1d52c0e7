use Rattle.std.proofs.Common.{◌≡◌, ℕ, List, drop}
use Rattle.type_metadata.specs.Denoted.{first, is_own}
use Rattle.type_metadata.specs.Listed.{at_name_in}
use Rattle.type_metadata.proofs.names.own.Given as goal

abbrev pub invariant-loop-at : goal.invariant-loop-at
invariant-loop-at l = (file : ℕ) (q : List ℕ) → at_name_in file q l.maps ≡ first (is_own file q) (drop l.at l.items)
