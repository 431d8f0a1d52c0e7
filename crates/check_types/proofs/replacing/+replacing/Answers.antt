use Rattle.std.proofs.Common.{arith}
use Rattle.check_types.proofs.PartLemmas.{replaced_step}
use Rattle.check_types.proofs.replacing.+replacing.Goals as goal

pub replaced_within-returns : goal.replaced_within-returns
replaced_within-returns t c =
    let some = c.if-levels-eq0.false in
    replaced_step c.args.types.now.units c.args.levels c.args.ty.now _ c.head_replaced.result (omega arith) c.head.ensures c.head_replaced.ensures
