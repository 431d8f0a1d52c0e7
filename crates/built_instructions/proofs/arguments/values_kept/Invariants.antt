use Rattle.std.proofs.Common.{◌≡◌, ◌++◌, drop}
use Rattle.built_instructions.specs.Arguments.{values_kept}
use Rattle.built_instructions.proofs.arguments.values_kept.Given as goal

abbrev pub invariant-loop-arg : goal.invariant-loop-arg
invariant-loop-arg l = l.values ++ values_kept l.types.units (drop l.arg-index l.args) ≡ values_kept l.types.units l.args
