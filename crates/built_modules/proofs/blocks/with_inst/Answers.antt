use Rattle.std.proofs.Common.{◌∙◌, sym}
use Rattle.built_modules.proofs.RunLemmas.{on_ok, continued_with, begun_with}
use Rattle.built_modules.proofs.blocks.with_inst.Goals as goal

pub returns-then-is_same_mark : goal.returns-then-is_same_mark
returns-then-is_same_mark c = on_ok _ _ c.continued.result (λ new is pieces.
    continued_with c.args.units.now c.args.run new c.args.mark c.args.inst pieces (sym c.is_same_mark.ensures ∙ c.if-is_same_mark.true) is)
    c.continued.ensures

pub returns : goal.returns
returns c = on_ok _ _ c.begun.result (λ new is pieces.
    begun_with c.args.units.now c.args.run new _ c.args.mark c.args.inst pieces
    (sym c.is_same_mark.ensures ∙ c.if-is_same_mark.false) c.in_ok-blocks.ensures is)
    c.begun.ensures
