use Rattle.std.proofs.Common.{drop}
use Rattle.unit_grammar.specs.Seeing.{tokens}
use Rattle.module_grammar.specs.Items.{label}
use Rattle.module_grammar.proofs.FormLaws.{form_tells, label_told}
use Rattle.module_grammar.proofs.reading.read_label.Goals as goal

pub returns : goal.returns
returns c = record {
  gives = c.label.ensures;
  longest = form_tells label label_told (tokens c.args.input.now) (drop c.args.at (tokens c.args.input.now)) c.label.result c.label.ensures;
}
