use Rattle.std.proofs.Common.{◌<◌, ◌^◌, ◌+◌, arith}
use Rattle.std.specs.Int.{next_multiple_of}
use Rattle.ir_numbers.proofs.LayoutLemmas.{unlaid_by_end}
use Rattle.ir_numbers.proofs.layout.+space_if_laid_out.Goals as goal

pub returns-then-end-gt-MOST : goal.returns-then-end-gt-MOST
returns-then-end-gt-MOST t c =
    let space = c.in_ok-space-in-Struct.space in
    let above : 2 ^ 27 < next_multiple_of c.loop-part.end space.align + space.size = omega arith in
    unlaid_by_end c.args.ty.now _ _ _ c.part-item.result space.size space.align c.loop-part.invariant.0 c.loop-part-test.true c.part-item.is
    c.in_ok-space-in-Struct.ensures above
