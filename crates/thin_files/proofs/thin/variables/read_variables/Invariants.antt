use Rattle.std.proofs.Common.{take}
use Rattle.thin_files.specs.Shape.{AreVariables}
use Rattle.thin_files.proofs.thin.variables.read_variables.Given as goal

abbrev pub invariant-loop-unit : goal.invariant-loop-unit
invariant-loop-unit l = AreVariables (take l.unit-index l.units) l.nodes l.variables
