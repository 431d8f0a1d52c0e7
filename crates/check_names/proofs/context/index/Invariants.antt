use Rattle.std.proofs.Common.{◌≡◌, ℕ, List, drop}
use Rattle.std.specs.List.{position_from}
use Rattle.check_names.specs.Spaces as spec
use Rattle.check_names.specs.Index.{find}
use Rattle.check_names.proofs.context.index.Given as goal

abbrev pub invariant-loop-at : goal.invariant-loop-at
invariant-loop-at l = (q : List ℕ) → find q l.map ≡ position_from (spec.is_definition l.space q) l.at (drop l.at l.units)
