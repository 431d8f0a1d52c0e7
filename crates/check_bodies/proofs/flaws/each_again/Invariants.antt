use Rattle.std.proofs.Common.{◌≡◌, drop}
use Rattle.check_names.specs.Flaws.{each}
use Rattle.check_bodies.specs.Names.{names_of}
use Rattle.check_bodies.specs.Bodies.{again_among}
use Rattle.check_bodies.proofs.flaws.each_again.Given as goal

abbrev pub invariant-loop-at : goal.invariant-loop-at
invariant-loop-at l = l.flaw ≡ each (again_among (names_of l.body.units l.body.head)) (drop l.at l.own)
