use Rattle.std.proofs.Common.{◌≡◌}
use Rattle.check_bodies.specs.Standing.{standing}
use Rattle.check_bodies.proofs.standing.standing_at.Given as goal

abbrev pub invariant-loop-place : goal.invariant-loop-place
invariant-loop-place l = l.standing ≡ standing l.units l.place
