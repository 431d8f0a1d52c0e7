use Rattle.std.proofs.Common.{◌≡◌, drop}
use Rattle.check_bodies.specs.Numbers.{behind_parameters}
use Rattle.check_bodies.proofs.numbers.behind_parameters.Given as goal

abbrev pub invariant-loop-param : goal.invariant-loop-param
invariant-loop-param l = behind_parameters l.next (drop l.param-index l.params) ≡ behind_parameters l.initial.next l.params
