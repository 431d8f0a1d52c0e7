use Rattle.std.proofs.Common.{refl, string_bytes}
use Rattle.ltt_driver.proofs.StatusLemmas.{no_form_told, no_words, no_command}
use Rattle.ltt_driver.proofs.top.ltt.Goals as goal

pub returns-in_default-clause-means : goal.returns-in_default-clause-means
returns-in_default-clause-means g c =
    no_form_told _ _ _ _ _ _ (no_words string_bytes c.args.words.now c.in_default.len_below) c.usage_line.ensures refl c.say.ensures

pub returns-clause-means : goal.returns-clause-means
returns-clause-means g c =
    no_form_told _ _ _ _ _ _
    (no_command string_bytes c.args.words.now c.word-item.result c.as_bytes-word.result.now
    c.in-len1-up.len_at_least c.word-item.is c.as_bytes-word.ensures.value
    (cc (c.if-eq.ensures, c.as_slice.ensures)) (cc (c.if-eq-2.ensures, c.as_slice-2.ensures)) (cc (c.if-eq-3.ensures, c.as_slice-3.ensures)) (cc (c.if-eq-4.ensures, c.as_slice-4.ensures)))
    c.usage_line-2.ensures refl c.say-2.ensures
