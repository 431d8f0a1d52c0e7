use Rattle.std.proofs.Common.{◌≡◌, map, take}
use Rattle.check_constants.specs.Addresses.{indices_of}
use Rattle.check_constants.specs.Constants.{operand_weighed}
use Rattle.check_constants.proofs.addresses.indices_of.Given as goal

abbrev pub invariant-loop-operand : goal.invariant-loop-operand
invariant-loop-operand l = l.indices ≡ indices_of l.types.units (map operand_weighed (take l.operand-index l.operands))
