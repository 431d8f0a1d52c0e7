use Rattle.unit_grammar.specs.Attachments as plain
use Rattle.word_grammar.specs.Attached.{attach, attachments}
use Rattle.word_grammar.proofs.attached.attachments.Goals as goal

pub returns : goal.returns
unfolding attach attachments plain.attach plain.attachments
returns c = c.attachments.ensures.gives
