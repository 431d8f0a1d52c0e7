use Rattle.std.proofs.Common.{◌≡◌, drop}
use Rattle.std.specs.List.{position_from}
use Rattle.type_metadata.specs.declared.objects.Object.{Object}
use Rattle.type_metadata.specs.Places.{is_object}
use Rattle.type_metadata.specs.Listed.{at_object}
use Rattle.type_metadata.proofs.places.places.Given as goal

abbrev pub invariant-loop-at : goal.invariant-loop-at
invariant-loop-at l = (object : Object) → at_object object l.map ≡ position_from (is_object object) l.at (drop l.at l.items)
