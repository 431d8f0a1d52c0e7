use Rattle.std.proofs.Common.{arith}
use Rattle.check_types.proofs.PartLemmas.{differ_step}
use Rattle.check_types.proofs.differences.+differences.Goals as goal

pub differ_within-returns : goal.differ_within-returns
differ_within-returns t c =
    let some = c.if-levels-eq0.false in
    differ_step c.args.types.now.units c.args.levels c.args.one.now c.args.other.now _ _ c.heads_differ.result (omega arith)
    c.head.ensures c.head-2.ensures c.heads_differ.ensures
