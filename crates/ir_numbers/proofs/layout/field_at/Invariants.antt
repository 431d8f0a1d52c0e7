use Rattle.ir_numbers.proofs.LayoutLemmas.{Placing, Seeking}
use Rattle.ir_numbers.proofs.layout.field_at.Given as goal

abbrev pub invariant-loop-part : goal.invariant-loop-part
invariant-loop-part l = Placing l.fn.ty l.part-items l.part-index l.end × Seeking l.fn.ty l.part-items l.part-index l.end l.left l.fn.index
