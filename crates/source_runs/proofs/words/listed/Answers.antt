use Rattle.std.proofs.Common.{◌≡◌, sym, ◌∙◌, ap, ◌+◌, ◌-◌, length, take, drop, Some, None, arith}
use Rattle.std.proofs.lemmas.Grind.{common_steps}
use Rattle.source_runs.specs.Words.{answers_behind}
use Rattle.source_runs.proofs.WordLemmas.{words_from, next_answer}
use Rattle.source_runs.proofs.words.listed.Goals as goal

pub returns-in-None : goal.returns-in-None
returns-in-None c =
    let text = c.args.text.now in
    let start = c.loop-start.start in
    let rest : take (length text - start) (drop start text) ≡ drop start text = grind (arith, common_steps) in
    sym (next_answer text c.loop-start.answers _ _ start _ None c.loop-start-test.true rest c.first_word-word.ensures.word c.first_word-word.ensures.size c.in-None.ensures)
    ∙ c.loop-start.invariant.1

pub loop-start-preserved : goal.loop-start-preserved
loop-start-preserved c =
    let text = c.args.text.now in
    let start = c.loop-start.start in
    let rest : take (length text - start) (drop start text) ≡ drop start text = grind (arith, common_steps) in
    let step = next_answer text c.loop-start.answers _ _ start _ (Some c.in-Some.answer) c.loop-start-test.true rest c.first_word-word.ensures.word c.first_word-word.ensures.size c.in-Some.ensures in (
      grind (arith, common_steps, c.first_word-word.ensures.size),
      ap (λ answers. answers_behind answers (words_from (start + (length c.first_word-word.result.now + 1)) text)) c.in_ok-add-in-Some.ensures.added
          ∙ sym step ∙ c.loop-start.invariant.1,
    )
