use Rattle.std.proofs.Common.{◌≡◌, drop, map}
use Rattle.check_names.specs.Flaws.{each}
use Rattle.check_constants.specs.Constants.{weighed, operand_weighed}
use Rattle.check_constants.specs.Shapes.{type_at}
use Rattle.check_constants.specs.Rules.{parts_flaw, one_index_flaw}
use Rattle.check_constants.proofs.judged.+judged.Given as goal

abbrev pub invariant-parts_flaw-loop-at : goal.invariant-parts_flaw-loop-at
invariant-parts_flaw-loop-at l =
    l.flaw ≡ parts_flaw l.types.output l.types.units l.quiet (type_at l.place) l.at (map weighed (drop l.at l.parts))

abbrev pub invariant-each_index_flaw-loop-at : goal.invariant-each_index_flaw-loop-at
invariant-each_index_flaw-loop-at l =
    l.flaw ≡ each (one_index_flaw l.types.output l.types.units l.quiet) (map operand_weighed (drop l.at l.operands))
