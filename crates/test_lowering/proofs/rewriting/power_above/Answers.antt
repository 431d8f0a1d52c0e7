use Rattle.std.proofs.Common.{◌≡◌, ◌-◌, ◌<◌, ◌≤◌, arith, refl, sym, ◌∙◌}
use Rattle.test_lowering.specs.Rewriting.{doubled_to}
use Rattle.test_lowering.proofs.RewritingLaws.{doubled-done, doubled-step, doubled-end}
use Rattle.test_lowering.proofs.rewriting.power_above.Goals as goal

pub loop-doublings-init : goal.loop-doublings-init
loop-doublings-init c = refl

pub returns-then-n-power : goal.returns-then-n-power
returns-then-n-power c =
    sym (doubled-done (64 - c.loop-doublings._doublings) c.loop-doublings.power c.args.n c.if-n-power.true) ∙ c.loop-doublings.invariant

pub loop-doublings-preserved : goal.loop-doublings-preserved
loop-doublings-preserved c =
    doubled-step c.loop-doublings._doublings c.loop-doublings.power c.args.n (doubled_to 64 1 c.args.n) c.loop-doublings-test.true c.if-n-power.false
    c.loop-doublings.invariant

pub returns : goal.returns
returns c = doubled-end c.loop-doublings._doublings c.loop-doublings.power c.args.n (doubled_to 64 1 c.args.n) c.loop-doublings-test.false
    c.loop-doublings.invariant
