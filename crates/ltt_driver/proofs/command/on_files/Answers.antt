use Rattle.std.proofs.Common.{refl, string_bytes}
use Rattle.ltt_driver.proofs.StatusLemmas.{no_form_told, many_files_told, no_file, many_files}
use Rattle.ltt_driver.proofs.command.on_files.Goals as goal

pub returns-in-empty-clause-answer : goal.returns-in-empty-clause-answer
returns-in-empty-clause-answer g c =
    no_form_told _ _ _ _ _ _ (no_file string_bytes c.args.command c.args.names.now c.in-empty.len_below) c.usage_line.ensures refl c.say.ensures

pub returns-in_default-clause-answer : goal.returns-in_default-clause-answer
returns-in_default-clause-answer g c =
    many_files_told _ _ _ _ _ _ (many_files string_bytes c.args.command c.args.names.now c.in_default.len_at_least) c.files_line.ensures refl c.say-in_default.ensures
