use Rattle.std.proofs.Common.{◌≡◌, map, take}
use Rattle.check_constants.specs.Constants.{weighed}
use Rattle.check_constants.specs.Keeping.{values_of}
use Rattle.check_constants.proofs.keeping.+kept.Given as goal

abbrev pub invariant-values_of-loop-part : goal.invariant-values_of-loop-part
invariant-values_of-loop-part l = l.values ≡ values_of l.types.units (map weighed (take l.part-index l.parts))
