use Rattle.unit_grammar.proofs.SeeingLemmas.{piece_at}
use Rattle.unit_grammar.proofs.input.Input.at.Goals as goal

pub returns-then-at-self : goal.returns-then-at-self
returns-then-at-self c =
    rw c.part.ensures (piece_at c.args.self.now.text.now c.args.self.now.tokens.now c.args.at _ c.if-at-self.true)
