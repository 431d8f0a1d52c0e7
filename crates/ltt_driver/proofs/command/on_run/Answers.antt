use Rattle.std.proofs.Common.{◌≡◌, ◌-◌, refl, sym, ap, ◌∙◌, subst, string_bytes, [], map, take, drop, length, unwrap_or, arith}
use Rattle.std.proofs.lemmas.Grind.{common_steps}
use Rattle.source_runs.specs.Words.{answers_of}
use Rattle.ltt_driver.specs.Asked.{Run, on_files}
use Rattle.ltt_base.specs.Status.{Seen}
use Rattle.ltt_driver.specs.Telling.{IsAnswer}
use Rattle.ltt_driver.proofs.StatusLemmas.{no_form_told, few_words, no_steps, no_answers, run_formed}
use Rattle.ltt_driver.proofs.command.on_run.Goals as goal

pub returns-in_default-clause-answer : goal.returns-in_default-clause-answer
returns-in_default-clause-answer g c =
    no_form_told _ _ _ _ _ _ (few_words string_bytes c.args.words.now c.in_default.len_below) c.usage_line.ensures refl c.say.ensures

pub returns-in_default-steps_of-clause-answer : goal.returns-in_default-steps_of-clause-answer
returns-in_default-steps_of-clause-answer g c =
    no_form_told _ _ _ _ _ _
    (no_steps string_bytes c.args.words.now c.steps-item.result c.entry-item.result c.answers-item.result c.as_bytes.result.now
    c.in-len3-up.len_at_least c.steps-item.is c.entry-item.is c.answers-item.is c.as_bytes.ensures.value (cc (c.steps_of.ensures, c.in_default-steps_of.is)))
    c.usage_line-in_default-steps_of.ensures refl c.say-in_default-steps_of.ensures

pub returns-then-not-are_answers-clause-answer : goal.returns-then-not-are_answers-clause-answer
returns-then-not-are_answers-clause-answer g c =
    no_form_told _ _ _ _ _ _
    (no_answers string_bytes c.args.words.now c.steps-item.result c.entry-item.result c.answers-item.result c.as_bytes-2.result.now
    c.in-len3-up.len_at_least c.steps-item.is c.entry-item.is c.answers-item.is c.as_bytes-2.ensures.value (sym c.if-not-are_answers.ensures))
    c.usage_line-then-not-are_answers.ensures refl c.say-then-not-are_answers.ensures

pub returns-clause-answer : goal.returns-clause-answer
returns-clause-answer g c =
    let before : Seen = record {
      out = g.O.Sink.taken c.args.out.now;
      out_faults = g.O.Sink.faults c.args.out.now;
      err = g.E.Sink.taken c.args.err.now;
      err_faults = g.E.Sink.faults c.args.err.now;
      read_faults = g.F.Files.faults c.args.files.now;
    } in
    let after : Seen = record {
      out = g.O.Sink.taken c.on_files.new.out;
      out_faults = g.O.Sink.faults c.on_files.new.out;
      err = g.E.Sink.taken c.on_files.new.err;
      err_faults = g.E.Sink.faults c.on_files.new.err;
      read_faults = g.F.Files.faults c.on_files.new.files;
    } in
    let formed = run_formed string_bytes c.args.words.now c.steps-item.result c.entry-item.result c.answers-item.result c.in-Some.steps
    c.as_bytes.result.now c.as_bytes-3.result.now c.as_bytes-2.result.now c.as_bytes-4.result.now
    c.in-len3-up.len_at_least c.steps-item.is c.entry-item.is c.answers-item.is
    c.as_bytes.ensures.value c.as_bytes-3.ensures.value c.as_bytes-2.ensures.value c.as_bytes-4.ensures.value
    (cc (c.steps_of.ensures, c.in-Some.is)) (sym c.if-not-are_answers.ensures) in
    let words = c.args.words.now in
    let rest : take (length words - 3) (drop 3 words) ≡ drop 3 words = grind (arith, common_steps) in
    let asked = formed ∙ ap (λ names. on_files (Run c.in-Some.steps c.as_bytes-3.result.now (unwrap_or (answers_of c.as_bytes-4.result.now) [])) (map string_bytes names)) (sym rest) in
    subst (λ a. IsAnswer a (g.F.Files.held c.args.files.now) before after c.on_files.result) (sym asked) c.on_files.ensures.answer
