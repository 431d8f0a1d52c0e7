use Rattle.std.proofs.Common.{◌≡◌, drop}
use Rattle.check_names.specs.Flaws.{◌then◌}
use Rattle.check_items.specs.Functions.{params_flaw}
use Rattle.check_items.proofs.functions.params_flaw.Given as goal

abbrev pub invariant-loop-at : goal.invariant-loop-at
invariant-loop-at l = (l.flaw then params_flaw l.types.output l.types.units l.quiet l.intrinsic l.at l.next (drop l.at l.params))
    ≡ params_flaw l.types.output l.types.units l.quiet l.intrinsic 0 0 l.params
