use Rattle.std.proofs.Common.{◌≡◌, length}
use Rattle.check_types.specs.Marks.{AreSound, AreMeasured}
use Rattle.check_types.proofs.marks.visit_all.Given as goal

abbrev pub invariant-loop-at : goal.invariant-loop-at
invariant-loop-at l = (length l.marks ≡ length l.context.units) × AreSound l.context.units l.marks × AreMeasured l.context.units l.marks l.measures
