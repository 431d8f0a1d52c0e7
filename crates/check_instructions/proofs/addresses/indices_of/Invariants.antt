use Rattle.std.proofs.Common.{◌≡◌, ◌++◌}
use Rattle.std.proofs.Common.{drop}
use Rattle.check_instructions.specs.Addresses.{indices_of}
use Rattle.check_instructions.proofs.addresses.indices_of.Given as goal

abbrev pub invariant-loop-one : goal.invariant-loop-one
invariant-loop-one l = l.indices ++ indices_of l.types.units (drop l.one-index l.index) ≡ indices_of l.types.units l.index
