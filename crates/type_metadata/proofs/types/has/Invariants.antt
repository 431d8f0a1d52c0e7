use Rattle.std.proofs.Common.{◌≡◌, drop}
use Rattle.std.specs.List.{list_any}
use Rattle.type_metadata.specs.Same.{same_carrier}
use Rattle.type_metadata.proofs.types.has.Given as goal

abbrev pub invariant-loop-other : goal.invariant-loop-other
invariant-loop-other l =
    list_any (same_carrier l.carrier) (drop l.other-index l.carriers) ≡ list_any (same_carrier l.carrier) l.carriers
