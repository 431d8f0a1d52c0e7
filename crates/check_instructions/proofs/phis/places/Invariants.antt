use Rattle.std.proofs.Common.{◌≡◌, ℕ, List, drop}
use Rattle.std.specs.List.{position_from}
use Rattle.check_instructions.specs.Phis.{has_label}
use Rattle.check_instructions.specs.Places.{arm_place}
use Rattle.check_instructions.proofs.phis.places.Given as goal

abbrev pub invariant-loop-at : goal.invariant-loop-at
invariant-loop-at l = (label : List ℕ) → arm_place label l.map ≡ position_from (has_label label) l.at (drop l.at l.arms)
