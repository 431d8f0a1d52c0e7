use Rattle.std.proofs.Common.{take}
use Rattle.thin_files.specs.Places.{ArePlaces}
use Rattle.thin_files.proofs.Places.{AreFound}
use Rattle.thin_files.proofs.thin.texts.are_distinct.Given as goal

abbrev pub invariant-loop-place : goal.invariant-loop-place
invariant-loop-place l = AreFound l.texts l.places l.place
