use Rattle.printed_modules.proofs.PlainLemmas.{plain_text}
use Rattle.printed_modules.proofs.laws.plain_is_printed.Goals as goal

pub returns : goal.returns
returns c = plain_text
