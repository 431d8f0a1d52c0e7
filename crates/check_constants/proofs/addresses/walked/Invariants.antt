use Rattle.std.proofs.Common.{◌≡◌, drop, map, Some}
use Rattle.std.specs.Option.{option_copied}
use Rattle.check_constants.specs.Addresses.{indices_of}
use Rattle.check_constants.specs.Constants.{operand_weighed}
use Rattle.check_constants.specs.Indices.{walked}
use Rattle.check_constants.proofs.addresses.walked.Given as goal

abbrev pub invariant-loop-operand : goal.invariant-loop-operand
invariant-loop-operand l =
    walked l.types.units l.bytes (option_copied l.place) (indices_of l.types.units (map operand_weighed (drop l.operand-index l.operands)))
    ≡ walked l.types.units l.from (Some l.ty) (indices_of l.types.units (map operand_weighed l.operands))
