use Rattle.std.proofs.Common.{◌≡◌, ◌++◌, drop}
use Rattle.std.specs.Prelude.{flat_map}
use Rattle.built_modules.specs.Modules.{jumps_at}
use Rattle.built_modules.proofs.modules.jumps_of.Given as goal

abbrev pub invariant-loop-unit : goal.invariant-loop-unit
invariant-loop-unit l = l.jumps ++ flat_map jumps_at (drop l.unit-index l.units) ≡ flat_map jumps_at l.units
