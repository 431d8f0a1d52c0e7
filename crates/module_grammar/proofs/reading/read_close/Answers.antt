use Rattle.std.proofs.Common.{drop}
use Rattle.unit_grammar.specs.Seeing.{tokens}
use Rattle.module_grammar.specs.Items.{close}
use Rattle.module_grammar.proofs.FormLaws.{form_tells, close_told}
use Rattle.module_grammar.proofs.reading.read_close.Goals as goal

pub returns : goal.returns
returns c = record {
  gives = c.close.ensures;
  longest = form_tells close close_told (tokens c.args.input.now) (drop c.args.at (tokens c.args.input.now)) c.close.result c.close.ensures;
}
