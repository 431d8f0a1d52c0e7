use Rattle.std.proofs.Common.{take}
use Rattle.thin_files.specs.Places.{ArePlaces}
use Rattle.thin_files.proofs.thin.places.places_of.Given as goal

abbrev pub invariant-loop-place : goal.invariant-loop-place
invariant-loop-place l = ArePlaces (take l.place l.texts) l.places
