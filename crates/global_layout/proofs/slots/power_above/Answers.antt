use Rattle.std.proofs.Common.{arith}
use Rattle.global_layout.proofs.PadLemmas.{doubling-begins, doubling-step, doubling-ends}
use Rattle.global_layout.proofs.slots.power_above.Goals as goal

pub loop-power-init : goal.loop-power-init
loop-power-init c = doubling-begins c.args.n

pub loop-power-preserved : goal.loop-power-preserved
loop-power-preserved c = doubling-step c.args.n c.loop-power.power c.loop-power-test.true c.loop-power.invariant

pub loop-power-smaller : goal.loop-power-smaller
loop-power-smaller c = let some = c.loop-power.invariant.some in omega (arith, some)

pub returns : goal.returns
returns c = doubling-ends c.args.n c.loop-power.power c.loop-power-test.false c.loop-power.invariant
