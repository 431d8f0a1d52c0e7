use Rattle.std.proofs.Common.{refl, string_bytes}
use Rattle.ltt_driver.proofs.StatusLemmas.{no_form_told, none_of_one, many_of_one}
use Rattle.ltt_driver.proofs.command.on_one.Goals as goal

pub returns-in-empty-clause-answer : goal.returns-in-empty-clause-answer
returns-in-empty-clause-answer g c =
    no_form_told _ _ _ _ _ _ (none_of_one string_bytes c.args.command c.args.names.now c.in-empty.len_below) c.usage_line.ensures refl c.say.ensures

pub returns-in_default-clause-answer : goal.returns-in_default-clause-answer
returns-in_default-clause-answer g c =
    no_form_told _ _ _ _ _ _ (many_of_one string_bytes c.args.command c.args.names.now c.in_default.len_at_least) c.usage_line-in_default.ensures refl c.say-in_default.ensures
