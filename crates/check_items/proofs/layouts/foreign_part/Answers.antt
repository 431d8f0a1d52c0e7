use Rattle.std.proofs.Common.{◌∙◌, sym, ap, ◌<◌, length, find, arith}
use Rattle.check_items.specs.Layouts.{is_foreign, layout_parts}
use Rattle.check_items.proofs.LayoutLemmas.{find_here, find_next, find_last}
use Rattle.check_items.proofs.layouts.foreign_part.Goals as goal

pub returns-then-is_foreign : goal.returns-then-is_foreign
returns-then-is_foreign c =
    sym (find_here c.loop-rest.rest.now c.first_part-part.result.now c.first_part-part.ensures.part (sym c.is_foreign.ensures ∙ c.if-is_foreign.true))
    ∙ c.loop-rest.invariant

pub returns-then-part-rest : goal.returns-then-part-rest
returns-then-part-rest c =
    sym (find_last c.loop-rest.rest.now c.first_part-part.result.now (sym c.is_foreign.ensures ∙ c.if-is_foreign.false)
    c.first_part-part.ensures.part c.if-part-rest.true)
    ∙ c.loop-rest.invariant

pub loop-rest-preserved : goal.loop-rest-preserved
loop-rest-preserved c =
    let inside : length c.first_part-part.result.now < length c.loop-rest.rest.now = let within = c.first_part-part.ensures.within in let apart = c.if-part-rest.false in omega arith in
    ap (λ t. find is_foreign (layout_parts t)) c.behind-rest.ensures
    ∙ sym (find_next c.loop-rest.rest.now c.first_part-part.result.now (sym c.is_foreign.ensures ∙ c.if-is_foreign.false)
    c.first_part-part.ensures.part c.first_part-part.ensures.len inside)
    ∙ c.loop-rest.invariant
