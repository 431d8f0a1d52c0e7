use Rattle.std.proofs.Common.{◌≡◌, ◌||◌, ℕ, List, drop}
use Rattle.check_items.specs.Found.{has, is_in}
use Rattle.check_items.proofs.identifiers.put_all.Given as goal

abbrev pub invariant-loop-name : goal.invariant-loop-name
invariant-loop-name l = (q : List ℕ) → (has q l.found || is_in q (drop l.name-index l.names)) ≡ (has q l.fn.found || is_in q l.names)
