use Rattle.std.proofs.Common.{◌∙◌, ap}
use Rattle.type_metadata.specs.Items.{variables_from, functions_from}
use Rattle.type_metadata.specs.Denoted.{first, is_called}
use Rattle.type_metadata.proofs.DenotedLaws.{first_found, first_missed}
use Rattle.type_metadata.proofs.denoting.first_of.Goals as goal

pub returns-in-Some : goal.returns-in-Some
returns-in-Some c =
    first_found (is_called c.args.linkage c.args.name.now) (variables_from c.args.file 0 c.args.module.now.vars)
    (functions_from c.args.file 0 c.args.module.now.funcs) c.in-Some.object
    (c.in-Some.ensures ∙ ap (λ vs. first (is_called c.args.linkage c.args.name.now) (variables_from c.args.file 0 vs)) c.items.ensures)

pub returns-in-None : goal.returns-in-None
returns-in-None c =
    c.first_function.ensures
    ∙ ap (λ fs. first (is_called c.args.linkage c.args.name.now) (functions_from c.args.file 0 fs)) c.items-in-None.ensures
    ∙ first_missed (is_called c.args.linkage c.args.name.now) (variables_from c.args.file 0 c.args.module.now.vars)
    (functions_from c.args.file 0 c.args.module.now.funcs)
    (c.in-None.ensures ∙ ap (λ vs. first (is_called c.args.linkage c.args.name.now) (variables_from c.args.file 0 vs)) c.items.ensures)
