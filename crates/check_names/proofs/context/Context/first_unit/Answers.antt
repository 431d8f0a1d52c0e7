use Rattle.std.proofs.Common.{◌∙◌, sym, ap}
use Rattle.std.specs.Prelude.{slice_get}
use Rattle.check_names.specs.Spaces.{is_definition}
use Rattle.check_names.proofs.SearchLemmas.{first_gets, first_none}
use Rattle.check_names.proofs.context.Context.first_unit.Goals as goal

pub returns-in-Some : goal.returns-in-Some
returns-in-Some c = c.unit_at.ensures ∙ ap (λ us. slice_get us c.in-Some.at) c.units.ensures
    ∙ first_gets (is_definition c.args.space c.args.name.now) c.in-Some.at c.args.self.now.units (sym c.first_definition.ensures ∙ c.in-Some.is)

pub returns-in-None : goal.returns-in-None
returns-in-None c = sym (first_none (is_definition c.args.space c.args.name.now) 0 c.args.self.now.units
    (sym c.first_definition.ensures ∙ c.in-None.is))
