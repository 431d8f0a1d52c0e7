use Rattle.std.proofs.Common.{◌<◌, ℕ, List, [], ◌∷◌, ◌++◌, drop, length, refl, sym, ap, ◌∙◌, arith}
use Rattle.ir_values.specs.declared.units.Attach.{Attach}
use Rattle.type_grammar.specs.Levels.{levels}
use Rattle.type_grammar.specs.Reading.{reads}
use Rattle.unit_grammar.specs.Readers.{read}
use Rattle.unit_grammar.specs.Seeing.{tokens}
use Rattle.unit_grammar.proofs.LoopLemmas.{turn_more}
use Rattle.head_grammar.specs.Extras as spec
use Rattle.head_grammar.proofs.AttachedLemmas.{left_more, attachments_more}
use Rattle.head_grammar.proofs.extras.all_attached.Goals as goal

pub loop-turn-preserved : goal.loop-turn-preserved
loop-turn-preserved c =
    let all = c.left-turn-end.ensures in
    let test = c.loop-turn-test.true in
    let less : c.loop-turn.turn < length (drop c.args.at (tokens c.args.input.now)) = omega arith in
    let given = c.loop-turn.invariant.0 in
    let item = c.in-Ok.item in (
      given ++ item ∷ [],
      turn_more (read (reads levels) spec.attached) _ _ c.loop-turn.turn given (given ++ item ∷ [])
          (drop c.loop-turn.at (tokens c.args.input.now)) (drop c.in-Ok.behind (tokens c.args.input.now)) item
          c.loop-turn.invariant.1 less c.in-Ok.ensures refl,
      c.in_ok-all-in-Ok.ensures.attached ∙ ap (λ (xs : List Attach). xs ++ item.attach ∷ []) c.loop-turn.invariant.2 ∙ sym (attachments_more given item),
      c.in_ok-all-in-Ok.ensures.left ∙ ap (λ (xs : List (List ℕ)). xs ++ item.left) c.loop-turn.invariant.3 ∙ sym (left_more given item),
    )
