use Rattle.std.proofs.Common.{◌≡◌, ℕ, List, drop}
use Rattle.type_metadata.specs.Denoted.{first, is_called}
use Rattle.type_metadata.specs.Listed.{at_name}
use Rattle.type_metadata.proofs.names.called.Given as goal

abbrev pub invariant-loop-at : goal.invariant-loop-at
invariant-loop-at l = (q : List ℕ) → at_name q l.map ≡ first (is_called l.linkage q) (drop l.at l.items)
