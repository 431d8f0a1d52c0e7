use Rattle.std.proofs.Common.{◌≡◌, ◌++◌, drop}
use Rattle.built_modules.specs.Functions.{param_types}
use Rattle.built_modules.proofs.functions.param_types.Given as goal

abbrev pub invariant-loop-param : goal.invariant-loop-param
invariant-loop-param l = l.tys ++ param_types l.types.units (drop l.param-index l.params) ≡ param_types l.types.units l.params
