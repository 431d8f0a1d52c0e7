use Rattle.check_types.proofs.EndLemmas.{pass_smaller, marks_tell}
use Rattle.check_types.proofs.MeasureLemmas.{measures_tell}
use Rattle.check_types.proofs.marks.settle.Goals as goal

pub loop-changed-smaller : goal.loop-changed-smaller
loop-changed-smaller c = pass_smaller c.args.context.now.units c.loop-changed.marks c.pass-changed.new.marks c.loop-changed.changed
    c.pass-changed.result c.loop-changed-test.true c.pass-changed.ensures.passing

pub returns-clause-ends : goal.returns-clause-ends
returns-clause-ends c = marks_tell c.args.context.now.units c.loop-changed.marks c.loop-changed.invariant.0 c.loop-changed.invariant.1
    (c.loop-changed.invariant.3 c.loop-changed-test.false)

pub returns-clause-measures : goal.returns-clause-measures
returns-clause-measures c = measures_tell c.args.context.now.units c.loop-changed.marks c.loop-changed.measures
    (marks_tell c.args.context.now.units c.loop-changed.marks c.loop-changed.invariant.0 c.loop-changed.invariant.1
    (c.loop-changed.invariant.3 c.loop-changed-test.false)) c.loop-changed.invariant.2
