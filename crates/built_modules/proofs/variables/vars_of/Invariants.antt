use Rattle.std.proofs.Common.{◌≡◌, ◌++◌, drop}
use Rattle.std.specs.Prelude.{flat_map}
use Rattle.built_modules.specs.Variables.{vars_at}
use Rattle.built_modules.proofs.variables.vars_of.Given as goal

abbrev pub invariant-loop-unit : goal.invariant-loop-unit
invariant-loop-unit l =
    l.vars ++ flat_map (vars_at l.types.output l.types.units l.file) (drop l.unit-index l.units)
    ≡ flat_map (vars_at l.types.output l.types.units l.file) l.units
