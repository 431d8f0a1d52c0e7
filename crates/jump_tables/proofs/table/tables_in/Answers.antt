use Rattle.std.proofs.Common.{◌∙◌, sym, ap, [], ◌∷◌, ◌++◌}
use Rattle.jump_tables.specs.Tables.{tables_in}
use Rattle.jump_tables.proofs.TableLemmas.{tables-more}
use Rattle.jump_tables.proofs.table.tables_in.Goals as goal

pub loop-at-preserved : goal.loop-at-preserved
loop-at-preserved c =
    let group = c.index-groups-at.result in
    c.in_ok-add_table.ensures ∙ ap (λ tables. tables ++ tables_in (group ∷ [])) c.loop-at.invariant
    ∙ sym (tables-more c.args.groups.now c.loop-at.at group c.loop-at-test.true c.index-groups-at.is)
