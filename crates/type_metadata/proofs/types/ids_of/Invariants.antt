use Rattle.std.proofs.Common.{◌≡◌, drop, map}
use Rattle.type_metadata.specs.Same.{same_id}
use Rattle.type_metadata.specs.Marks.{ids_of, with_each_new}
use Rattle.type_metadata.proofs.types.ids_of.Given as goal

abbrev pub invariant-loop-mark : goal.invariant-loop-mark
invariant-loop-mark l = with_each_new same_id l.ids (map (λ mark. mark.id) (drop l.mark-index l.marks)) ≡ ids_of l.marks
