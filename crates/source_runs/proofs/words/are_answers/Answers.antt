use Rattle.std.proofs.Common.{◌≡◌, sym, refl, ap, ◌∙◌, false, is_some, Some, [], codes, bytes_eq, if◌then◌else◌}
use Rattle.ir_meaning.specs.Sequence.{◌>>=◌}
use Rattle.source_runs.specs.Words.{words_of, answers_behind, are_few, few}
use Rattle.source_runs.proofs.WordLemmas.{counted}
use Rattle.source_runs.proofs.words.are_answers.Goals as goal

pub returns : goal.returns
returns c =
    let word = c.args.word.now in
    let other : bytes_eq word (codes "-") ≡ false = cc (c.if-eq.ensures, c.as_slice.ensures) in
    c.are_few.ensures ∙ ap are_few c.count.ensures ∙ counted (words_of word) [] 0 refl
    ∙ ap (λ is. is_some (if is then Some [] else answers_behind [] (words_of word) >>= few)) (sym other)
