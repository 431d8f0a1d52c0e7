use Rattle.std.proofs.Common.{◌≡◌, drop}
use Rattle.check_bodies.specs.Gathered.{gathered, of_function}
use Rattle.built_modules.specs.Blocks.{blocks_of, no_piece, pieces_at}
use Rattle.built_modules.specs.Runs.{blocks_with}
use Rattle.built_modules.proofs.blocks.blocks_in.Given as goal

abbrev pub invariant-loop-at : goal.invariant-loop-at
invariant-loop-at l =
    blocks_with l.units l.run (gathered (pieces_at l.types.output l.types.units l.file) l.at l.standing (drop l.at l.units))
    ≡ blocks_of l.units (of_function no_piece (pieces_at l.types.output l.types.units l.file) l.units l.head)
