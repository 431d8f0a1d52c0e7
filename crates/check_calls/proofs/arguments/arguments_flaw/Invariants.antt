use Rattle.std.proofs.Common.{◌≡◌, drop}
use Rattle.check_calls.specs.Arguments.{arguments_from}
use Rattle.check_calls.proofs.arguments.arguments_flaw.Given as goal

abbrev pub invariant-loop-at : goal.invariant-loop-at
invariant-loop-at l =
    l.flaw ≡ arguments_from l.types.output l.types.units l.quiet l.body.head l.intrinsic l.at (drop l.at l.args)
