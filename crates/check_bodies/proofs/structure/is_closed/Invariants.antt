use Rattle.std.proofs.Common.{◌≡◌, drop}
use Rattle.std.specs.List.{list_any}
use Rattle.check_bodies.specs.Structure.{closes, is_closed}
use Rattle.check_bodies.proofs.structure.is_closed.Given as goal

abbrev pub invariant-loop-at : goal.invariant-loop-at
invariant-loop-at l = list_any closes (drop l.at l.units) ≡ is_closed l.units l.head
