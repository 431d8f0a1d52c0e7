use Rattle.std.proofs.Common.{◌≡◌, drop, map}
use Rattle.check_names.specs.Flaws.{each}
use Rattle.check_types.specs.Written.{written, part_flaw}
use Rattle.check_types.proofs.written.+written.Given as goal

abbrev pub invariant-parts_flaw-loop-at : goal.invariant-parts_flaw-loop-at
invariant-parts_flaw-loop-at l =
    l.flaw ≡ each (part_flaw l.quiet) (map (written l.types.output l.types.units l.quiet) (drop l.at l.parts))
