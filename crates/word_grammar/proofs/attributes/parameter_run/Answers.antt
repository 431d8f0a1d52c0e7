use Rattle.std.proofs.Common.{◌<◌, ℕ, List, [], ◌∷◌, ◌++◌, drop, length, refl, sym, ap, ◌∙◌, arith}
use Rattle.type_grammar.specs.Levels.{levels}
use Rattle.type_grammar.specs.Reading.{reads}
use Rattle.unit_grammar.specs.Readers.{read}
use Rattle.unit_grammar.specs.Seeing.{tokens}
use Rattle.unit_grammar.proofs.LoopLemmas.{turn_more}
use Rattle.word_grammar.specs.Attributes as spec
use Rattle.word_grammar.proofs.SaidLemmas.{said_more}
use Rattle.word_grammar.proofs.attributes.parameter_run.Goals as goal

pub loop-turn-preserved : goal.loop-turn-preserved
loop-turn-preserved c =
    let all = c.left-turn-end.ensures in
    let test = c.loop-turn-test.true in
    let less : c.loop-turn.turn < length (drop c.args.at (tokens c.args.input.now)) = omega arith in
    let given = c.loop-turn.invariant.0 in (
      given ++ c.in-Ok.item ∷ [],
      turn_more (read (reads levels) spec.parameter_word) _ _ c.loop-turn.turn given (given ++ c.in-Ok.item ∷ [])
          (drop c.loop-turn.at (tokens c.args.input.now)) (drop c.in-Ok.behind (tokens c.args.input.now)) c.in-Ok.item
          c.loop-turn.invariant.1 less c.in-Ok.ensures refl,
      c.in_ok-list-in-Ok.ensures
          ∙ ap (λ (xs : List (List ℕ)). xs ++ spec.said (c.in-Ok.item ∷ [])) c.loop-turn.invariant.2
          ∙ sym (said_more given (c.in-Ok.item ∷ [])),
    )
