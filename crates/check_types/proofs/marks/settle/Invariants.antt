use Rattle.std.proofs.Common.{◌≡◌, ◌+◌, ◌-◌, ◌*◌, false, cond, length}
use Rattle.check_types.specs.Marks.{AreSound, AreDone, AreMeasured, marked_count}
use Rattle.check_types.proofs.marks.settle.Given as goal

abbrev pub invariant-loop-changed : goal.invariant-loop-changed
invariant-loop-changed l = (length l.marks ≡ length l.context.units) × AreSound l.context.units l.marks
    × AreMeasured l.context.units l.marks l.measures × (l.changed ≡ false → AreDone l.context.units l.marks (length l.context.units))

abbrev pub decreases-loop-changed : goal.decreases-loop-changed
decreases-loop-changed l = 2 * (length l.context.units - marked_count l.marks) + cond l.changed 1 0
