use Rattle.std.proofs.Common.{◌≡◌, drop, map}
use Rattle.check_types.specs.Measures.{single, parts_measure}
use Rattle.check_types.specs.Marks.{table_measure_of}
use Rattle.check_types.proofs.measures.+measures.Given as goal

abbrev pub invariant-parts_measure-loop-part : goal.invariant-parts_measure-loop-part
invariant-parts_measure-loop-part l = parts_measure l.before (map (table_measure_of l.context.units l.measures) (drop l.part-index l.parts))
    ≡ parts_measure (single 0 1) (map (table_measure_of l.context.units l.measures) l.parts)
