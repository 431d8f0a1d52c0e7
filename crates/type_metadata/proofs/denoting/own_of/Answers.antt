use Rattle.std.proofs.Common.{◌≡◌, ◌∙◌, sym, subst}
use Rattle.type_metadata.specs.Items.{items_in}
use Rattle.type_metadata.specs.Denoted.{first, is_own}
use Rattle.type_metadata.proofs.DenotedLaws.{first_own, first_other}
use Rattle.type_metadata.proofs.denoting.own_of.Goals as goal

pub returns-then-file-asked : goal.returns-then-file-asked
returns-then-file-asked c =
    subst (λ asked. c.first_of.result ≡ first (is_own asked c.args.name.now) (items_in c.args.file c.args.module.now))
    c.if-file-asked.true
    (c.first_of.ensures ∙ sym (first_own c.args.file c.args.name.now c.args.module.now))

pub returns-else-file-asked : goal.returns-else-file-asked
returns-else-file-asked c =
    sym (first_other c.args.file c.args.asked c.args.name.now c.args.module.now c.if-file-asked.false)
