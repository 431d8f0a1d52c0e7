use Rattle.std.proofs.Common.{◌≡◌, ◌<◌, ap, length, arith}
use Rattle.check_types.proofs.EndLemmas.{passing_step}
use Rattle.check_types.proofs.MeasureLemmas.{measured_step}
use Rattle.check_types.proofs.marks.pass.Goals as goal

pub loop-at-preserved : goal.loop-at-preserved
loop-at-preserved c =
    let test = c.loop-at-test.true in
    let same : length c.units-at-end.result.now ≡ length c.args.context.now.units = ap length c.units-at-end.ensures in
    let below : c.loop-at.at < length c.args.context.now.units = omega arith in (
      passing_step c.args.context.now.units c.args.marks.now c.loop-at.marks c.loop-at.changed c.loop-at.at c.visit-changed.result
          c.visit-changed.new.marks below c.loop-at.invariant.0 c.visit-changed.ensures.due c.visit-changed.ensures.marks,
      measured_step c.args.context.now.units c.loop-at.marks c.visit-changed.new.marks c.loop-at.measures c.visit-changed.new.measures c.loop-at.at
          below c.loop-at.invariant.0.size c.loop-at.invariant.0.sound c.loop-at.invariant.1 c.visit-changed.ensures.marks c.visit-changed.ensures.measures,
    )
