use Rattle.std.proofs.Common.{◌∙◌, sym, inl, inr, arith}
use Rattle.unit_grammar.proofs.SeeingLemmas.{spelled_at}
use Rattle.unit_grammar.proofs.input.Input.spelled.Goals as goal

pub returns-then-at-most : goal.returns-then-at-most
returns-then-at-most c =
    let less = c.if-at-most.true in
    c.part.ensures
    ∙ sym (spelled_at c.args.self.now.text.now c.args.self.now.tokens.now c.args.at c.args.behind c.least-most.result _ less
    (elim c.least-most.ensures.one [ inl e ↦ omega arith | inr e ↦ omega arith ]) c.least-most.ensures.below)
