use Rattle.std.proofs.Common.{drop, refl}
use Rattle.unit_grammar.specs.Attachments.{attach, attachments}
use Rattle.unit_grammar.specs.Seeing.{tokens}
use Rattle.unit_grammar.proofs.AnswerLaws.{plain_tells}
use Rattle.unit_grammar.proofs.attached.attachments.Goals as goal

pub returns : goal.returns
unfolding attach attachments
returns c = record {
  gives = c.all_attached.ensures;
  longest = plain_tells attachments refl (tokens c.args.input.now) (drop c.args.at (tokens c.args.input.now)) c.all_attached.result c.all_attached.ensures;
}
