use Rattle.std.proofs.Common.{◌≡◌, drop}
use Rattle.check_calls.specs.Fitting.{unlike, is_other_written}
use Rattle.check_calls.proofs.fitting.are_other_written.Given as goal

abbrev pub invariant-loop-at : goal.invariant-loop-at
invariant-loop-at l = l.unlike ≡ unlike (is_other_written l.types.units) l.more l.args l.at (drop l.at l.written)
