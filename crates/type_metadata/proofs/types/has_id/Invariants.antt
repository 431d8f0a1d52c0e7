use Rattle.std.proofs.Common.{◌≡◌, drop}
use Rattle.std.specs.List.{list_any}
use Rattle.type_metadata.specs.Same.{same_id}
use Rattle.type_metadata.proofs.types.has_id.Given as goal

abbrev pub invariant-loop-other : goal.invariant-loop-other
invariant-loop-other l = list_any (same_id l.id) (drop l.other-index l.ids) ≡ list_any (same_id l.id) l.ids
