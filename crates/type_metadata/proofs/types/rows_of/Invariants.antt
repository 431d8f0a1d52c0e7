use Rattle.std.proofs.Common.{◌≡◌, ◌++◌, drop, map}
use Rattle.type_metadata.specs.Marks.{carriers_of}
use Rattle.type_metadata.proofs.types.rows_of.Given as goal

abbrev pub invariant-loop-id : goal.invariant-loop-id
invariant-loop-id l =
    l.rows ++ map (λ id. carriers_of id l.marks) (drop l.id-index l.ids) ≡ map (λ id. carriers_of id l.marks) l.ids
