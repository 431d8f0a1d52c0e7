use Rattle.std.proofs.Common.{rules}
use Rattle.ir_numbers.proofs.LayoutLemmas.{passing, placing_next, seeking_next}
use Rattle.ir_numbers.proofs.layout.field_at.Goals as goal

pub loop-part-preserved : goal.loop-part-preserved
loop-part-preserved c =
    let kept = c.loop-part.invariant in
    let passes = passing c.args.ty.now _ _ _ c.part-item.result _ _ _ kept.0 c.loop-part-test.true c.part-item.is (search rules)
    c.space_of-space.ensures c.end_behind-end.ensures in
    (placing_next _ _ _ _ _ _ passes, seeking_next _ _ _ _ _ _ _ _ passes kept.1 c.if-left-eq0.false)
