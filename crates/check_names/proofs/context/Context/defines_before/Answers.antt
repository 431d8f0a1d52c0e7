use Rattle.std.proofs.Common.{◌∙◌, ap}
use Rattle.check_names.specs.Index.{is_before}
use Rattle.check_names.specs.Spaces.{is_definition}
use Rattle.check_names.proofs.SearchLemmas.{first_before}
use Rattle.check_names.proofs.context.Context.defines_before.Goals as goal

pub returns : goal.returns
returns c = c.is_before.ensures ∙ ap (is_before c.args.at) c.first_definition.ensures
    ∙ first_before (is_definition c.args.space c.args.name.now) c.args.at c.args.self.now.units
