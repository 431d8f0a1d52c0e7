use Rattle.std.proofs.Common.{◌≡◌, ◌++◌, drop}
use Rattle.check_bodies.specs.Gathered.{gathered}
use Rattle.check_bodies.specs.Names.{names_at, names_of}
use Rattle.check_bodies.proofs.names.names_of.Given as goal

abbrev pub invariant-loop-at : goal.invariant-loop-at
invariant-loop-at l = l.names ++ gathered names_at l.at l.standing (drop l.at l.units) ≡ names_of l.units l.head
