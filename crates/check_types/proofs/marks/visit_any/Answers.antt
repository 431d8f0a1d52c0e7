use Rattle.std.proofs.Common.{◌∙◌, ap, length, arith}
use Rattle.check_types.proofs.EndLemmas.{visited_size, visited_sound}
use Rattle.check_types.proofs.MeasureLemmas.{measured_step}
use Rattle.check_types.proofs.marks.visit_any.Goals as goal

pub returns-clause-size : goal.returns-clause-size
returns-clause-size c = ap length c.visit.ensures.marks ∙ visited_size c.args.context.now.units c.args.marks.now c.args.at ∙ c.requires.size

pub returns-clause-sound : goal.returns-clause-sound
returns-clause-sound c =
    let inside = c.if-at-len.false in
    rw (c.visit.ensures.marks) (visited_sound c.args.context.now.units c.args.marks.now c.args.at (omega arith) c.requires.sound)

pub returns-clause-measured : goal.returns-clause-measured
returns-clause-measured c =
    let inside = c.if-at-len.false in
    let size = c.requires.size in
    measured_step c.args.context.now.units c.args.marks.now c.visit.new.marks c.args.measures.now c.visit.new.measures c.args.at (omega arith)
    c.requires.size c.requires.sound c.requires.measured c.visit.ensures.marks c.visit.ensures.measures
