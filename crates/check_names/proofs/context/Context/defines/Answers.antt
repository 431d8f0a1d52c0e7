use Rattle.std.proofs.Common.{◌∙◌, ap}
use Rattle.std.specs.Prelude.{is_some}
use Rattle.check_names.specs.Spaces.{is_definition}
use Rattle.check_names.proofs.SearchLemmas.{some_place}
use Rattle.check_names.proofs.context.Context.defines.Goals as goal

pub returns : goal.returns
returns c = c.is_some.ensures ∙ ap is_some c.first_definition.ensures
    ∙ some_place (is_definition c.args.space c.args.name.now) 0 c.args.self.now.units
