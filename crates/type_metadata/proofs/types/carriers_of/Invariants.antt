use Rattle.std.proofs.Common.{◌≡◌, drop, map}
use Rattle.std.specs.Prelude.{filter}
use Rattle.type_metadata.specs.Same.{same_id, same_carrier}
use Rattle.type_metadata.specs.Marks.{carriers_of, with_each_new}
use Rattle.type_metadata.proofs.types.carriers_of.Given as goal

abbrev pub invariant-loop-mark : goal.invariant-loop-mark
invariant-loop-mark l =
    with_each_new same_carrier l.row (map (λ mark. mark.carrier) (filter (λ mark. same_id mark.id l.id) (drop l.mark-index l.marks)))
    ≡ carriers_of l.id l.marks
