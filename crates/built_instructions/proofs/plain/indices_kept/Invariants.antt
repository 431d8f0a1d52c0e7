use Rattle.std.proofs.Common.{◌≡◌, ◌++◌, drop, map}
use Rattle.built_instructions.specs.Plain.{index_kept}
use Rattle.built_instructions.proofs.plain.indices_kept.Given as goal

abbrev pub invariant-loop-one : goal.invariant-loop-one
invariant-loop-one l = l.kept ++ map (index_kept l.types.units) (drop l.one-index l.index) ≡ map (index_kept l.types.units) l.index
