use Rattle.check_types.specs.Marks.{Passing, AreMeasured}
use Rattle.check_types.proofs.marks.pass.Given as goal

abbrev pub invariant-loop-at : goal.invariant-loop-at
invariant-loop-at l = Passing l.context.units l.initial.marks l.marks l.changed l.at × AreMeasured l.context.units l.marks l.measures
