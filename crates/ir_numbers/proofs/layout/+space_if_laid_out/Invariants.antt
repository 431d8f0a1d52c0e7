use Rattle.ir_numbers.proofs.LayoutLemmas.{Placing, Aligning}
use Rattle.ir_numbers.proofs.layout.+space_if_laid_out.Given as goal

abbrev pub decreases-space_if_laid_out : goal.decreases-space_if_laid_out
decreases-space_if_laid_out l = goal.size-space_if_laid_out l

abbrev pub invariant-loop-part : goal.invariant-loop-part
invariant-loop-part l = Placing l.ty l.part-items l.part-index l.end × Aligning l.part-items l.part-index l.align
