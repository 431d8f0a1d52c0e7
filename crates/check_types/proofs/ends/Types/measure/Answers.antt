use Rattle.std.proofs.Common.{◌∙◌, ap}
use Rattle.check_types.specs.Marks.{table_measure_of}
use Rattle.check_types.proofs.MeasureLemmas.{told}
use Rattle.check_types.proofs.ends.Types.measure.Goals as goal

pub returns : goal.returns
returns c =
    let units = c.self.inside.context.units in
    rw (← c.self.view_is) (c.measure_of.ensures ∙ ap (λ measures. table_measure_of units measures c.args.ty.now) c.items.ensures
    ∙ told units c.self.inside.measures c.args.ty.now c.self.invariant.1)
