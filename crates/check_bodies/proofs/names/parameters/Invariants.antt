use Rattle.std.proofs.Common.{◌≡◌, ◌++◌, drop}
use Rattle.check_bodies.specs.Names.{parameters}
use Rattle.check_bodies.proofs.names.parameters.Given as goal

abbrev pub invariant-loop-at : goal.invariant-loop-at
invariant-loop-at l = l.names ++ parameters l.at l.next (drop l.at l.params) ≡ parameters 0 0 l.params
