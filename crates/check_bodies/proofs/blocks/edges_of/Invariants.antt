use Rattle.std.proofs.Common.{◌≡◌, ◌++◌, drop}
use Rattle.check_bodies.specs.Gathered.{gathered}
use Rattle.check_bodies.specs.Blocks.{edges_at, edges_of}
use Rattle.check_bodies.proofs.blocks.edges_of.Given as goal

abbrev pub invariant-loop-at : goal.invariant-loop-at
invariant-loop-at l = l.edges ++ gathered edges_at l.at l.standing (drop l.at l.units) ≡ edges_of l.units l.head
