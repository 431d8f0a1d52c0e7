use Rattle.std.proofs.Common.{◌≡◌, drop, map}
use Rattle.std.specs.Prelude.{flat_map}
use Rattle.std.specs.List.{list_all}
use Rattle.check_types.specs.Named.{names_in}
use Rattle.check_types.specs.Marks.{is_marked}
use Rattle.check_types.proofs.marks.+types.Given as goal

abbrev pub invariant-parts_are_marked-loop-at : goal.invariant-parts_are_marked-loop-at
invariant-parts_are_marked-loop-at l =
    l.all ≡ list_all (is_marked l.context.units l.marks) (flat_map (λ names. names) (map names_in (drop l.at l.parts)))
