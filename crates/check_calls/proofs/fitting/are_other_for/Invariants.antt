use Rattle.std.proofs.Common.{◌≡◌, drop}
use Rattle.check_calls.specs.Fitting.{unlike, is_other_for}
use Rattle.check_calls.proofs.fitting.are_other_for.Given as goal

abbrev pub invariant-loop-at : goal.invariant-loop-at
invariant-loop-at l = l.unlike ≡ unlike (is_other_for l.types.units) l.more l.args l.at (drop l.at l.params)
