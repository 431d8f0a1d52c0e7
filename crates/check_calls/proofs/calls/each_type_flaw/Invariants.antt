use Rattle.std.proofs.Common.{◌≡◌, drop}
use Rattle.check_names.specs.Flaws.{each}
use Rattle.check_types.specs.declared.places.Allowed.TheVariants.{Scalar}
use Rattle.check_types.specs.Written.{type_flaw}
use Rattle.check_calls.proofs.calls.each_type_flaw.Given as goal

abbrev pub invariant-loop-at : goal.invariant-loop-at
invariant-loop-at l = l.flaw ≡ each (type_flaw l.types.output l.types.units l.quiet Scalar) (drop l.at l.written)
