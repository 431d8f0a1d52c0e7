use Rattle.std.proofs.Common.{◌≡◌, map, take}
use Rattle.check_constants.specs.Constants.{weighed}
use Rattle.check_constants.specs.Keeping.{types_of}
use Rattle.check_constants.proofs.keeping.types_of.Given as goal

abbrev pub invariant-loop-part : goal.invariant-loop-part
invariant-loop-part l = l.list ≡ types_of l.types.units (map weighed (take l.part-index l.parts))
