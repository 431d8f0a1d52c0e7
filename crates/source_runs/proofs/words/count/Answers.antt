use Rattle.std.proofs.Common.{◌≡◌, sym, ◌∙◌, ◌+◌, ◌-◌, length, take, drop, Some, None, arith}
use Rattle.std.proofs.lemmas.Grind.{common_steps}
use Rattle.source_runs.proofs.WordLemmas.{next_count}
use Rattle.source_runs.proofs.words.count.Goals as goal

pub returns-in-None : goal.returns-in-None
returns-in-None c =
    let text = c.args.text.now in
    let start = c.loop-start.start in
    let rest : take (length text - start) (drop start text) ≡ drop start text = grind (arith, common_steps) in
    sym (next_count text _ _ c.loop-start.count start _ None c.loop-start-test.true rest c.first_word-word.ensures.word c.first_word-word.ensures.size c.in-None.ensures)
    ∙ c.loop-start.invariant.2

pub loop-start-preserved : goal.loop-start-preserved
loop-start-preserved c =
    let text = c.args.text.now in
    let start = c.loop-start.start in
    let rest : take (length text - start) (drop start text) ≡ drop start text = grind (arith, common_steps) in
    let step = next_count text _ _ c.loop-start.count start _ (Some c.in-Some.field-0) c.loop-start-test.true rest c.first_word-word.ensures.word c.first_word-word.ensures.size c.in-Some.ensures in (
      grind (arith, common_steps, c.first_word-word.ensures.size),
      grind (arith, c.loop-start.invariant.1),
      sym step ∙ c.loop-start.invariant.2,
    )
