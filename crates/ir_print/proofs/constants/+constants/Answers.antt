use Rattle.std.proofs.Common.{sym, ap, ◌∙◌, ◌++◌, codes}
use Rattle.ir_print.specs.Pieces.{commas}
use Rattle.ir_print.specs.Constants.{Printed, const_printed, typed_const_text}
use Rattle.ir_names.proofs.PutLemmas.{puts-then, puts-as}
use Rattle.ir_print.proofs.ListLemmas.{next-comma, next-behind, next-index, printed-map, printed-behind, printed-gep}
use Rattle.ir_print.proofs.constants.+constants.Goals as goal

pub put_const-returns-in-Gep : goal.put_const-returns-in-Gep
put_const-returns-in-Gep g t c =
    let all = puts-then (puts-then (rw c.get.ensures at c.put_base.ensures) (rw c.items-in-Gep.ensures at c.put_indices.ensures)) c.put-in-Gep.ensures in
    puts-as (ap (λ (printed : Printed). printed.alone c.args.ty.now) (sym (ap const_printed c.in-Gep.is ∙ printed-gep _ _ _))) all

pub put_behind-returns : goal.put_behind-returns
put_behind-returns g t c = puts-then (puts-then c.put_ty.ensures c.put.ensures) c.put_const.ensures

pub put_array-returns : goal.put_array-returns
put_array-returns g t c = puts-as (ap (λ list. codes "[" ++ commas list ++ codes "]") (printed-map const_printed c.args.part.now c.args.parts.now))
    (puts-then (puts-then c.put.ensures c.put_elements.ensures) c.put-2.ensures)

pub put_members-returns : goal.put_members-returns
put_members-returns g t c = puts-as (ap (λ list. codes "{ " ++ commas list ++ codes " }") (printed-behind const_printed c.args.types.now c.args.parts.now))
    (puts-then (puts-then c.put.ensures c.put_parts.ensures) c.put-2.ensures)

pub put_base-returns : goal.put_base-returns
put_base-returns g t c = puts-then (puts-then (puts-then c.put.ensures c.put_ty.ensures) c.put-2.ensures) c.put_typed_const.ensures

pub put_elements-loop-at-preserved : goal.put_elements-loop-at-preserved
put_elements-loop-at-preserved g t c = let is = c.index-parts-at.is in
    next-comma (typed_const_text c.args.part.now) c.args.parts.now c.loop-at.at c.index-parts-at.result c.loop-at-test.true c.loop-at.invariant
    (puts-then c.put_comma.ensures (rw (sym is) c.put_typed_const.ensures))

pub put_parts-loop-at-preserved : goal.put_parts-loop-at-preserved
put_parts-loop-at-preserved g t c = let is = c.index-parts-at.is in
    next-behind typed_const_text c.args.types.now c.args.parts.now c.loop-at.at c.index-parts-at.result c.loop-at-test.true c.loop-at.invariant
    (puts-then c.put_comma.ensures (rw (sym is) c.put_part.ensures))

pub put_indices-loop-index-preserved : goal.put_indices-loop-index-preserved
put_indices-loop-index-preserved g t c = let is = c.index-item.is in
    next-index c.args.indices.now c.loop-index.index-index c.index-item.result c.loop-index-test.true c.loop-index.invariant
    (puts-then c.put.ensures (rw (sym is) c.put_typed.ensures))
