use Rattle.std.proofs.Common.{◌≡◌, drop}
use Rattle.check_calls.specs.Fitting.{unlike, is_other_type}
use Rattle.check_calls.proofs.fitting.are_other_types.Given as goal

abbrev pub invariant-loop-at : goal.invariant-loop-at
invariant-loop-at l = l.unlike ≡ unlike (is_other_type l.types.units) l.more l.written l.at (drop l.at l.params)
