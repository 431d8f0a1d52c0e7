use Rattle.std.proofs.Common.{◌-◌}
use Rattle.global_layout.proofs.PadLemmas.{IsDoubling}
use Rattle.global_layout.proofs.slots.power_above.Given as goal

abbrev pub invariant-loop-power : goal.invariant-loop-power
invariant-loop-power l = IsDoubling l.n l.power

abbrev pub decreases-loop-power : goal.decreases-loop-power
decreases-loop-power l = l.n - l.power
