use Rattle.std.proofs.Common.{◌∙◌, sym, ap}
use Rattle.type_metadata.specs.Types.{row_at}
use Rattle.type_metadata.proofs.RowLaws.{row_past, row_skip}
use Rattle.type_metadata.proofs.types.Types.row.Goals as goal

pub returns-then-at-rows : goal.returns-then-at-rows
returns-then-at-rows c =
    sym (row_past c.args.id.now c.items-ids.result.now c.items-rows.result.now c.loop-at.at c.if-at-rows.true)
    ∙ c.loop-at.invariant
    ∙ ap (λ ids. row_at c.args.id.now ids c.items-rows.result.now) c.items-ids.ensures
    ∙ ap (row_at c.args.id.now c.args.self.now.ids) c.items-rows.ensures

pub loop-at-preserved : goal.loop-at-preserved
loop-at-preserved c =
    row_skip c.args.id.now c.items-ids.result.now c.items-rows.result.now c.loop-at.at c.index-ids-at.result
    c.loop-at-test.true c.if-at-rows.false c.index-ids-at.is (sym c.is_same_id.ensures ∙ c.if-is_same_id.false)
    ∙ c.loop-at.invariant
