use Rattle.std.proofs.Common.{◌≡◌, ◌-◌}
use Rattle.test_lowering.specs.Rewriting.{doubled_to}
use Rattle.test_lowering.proofs.rewriting.power_above.Given as goal

abbrev pub invariant-loop-doublings : goal.invariant-loop-doublings
invariant-loop-doublings l = doubled_to (64 - l._doublings) l.power l.n ≡ doubled_to 64 1 l.n
