use Rattle.std.proofs.Common.{◌≡◌, ◌++◌, drop}
use Rattle.built_instructions.specs.Arguments.{types_kept}
use Rattle.built_instructions.proofs.arguments.types_kept.Given as goal

abbrev pub invariant-loop-arg : goal.invariant-loop-arg
invariant-loop-arg l = l.list ++ types_kept l.types.units (drop l.arg-index l.args) ≡ types_kept l.types.units l.args
