use Rattle.std.proofs.Common.{drop}
use Rattle.unit_grammar.specs.Seeing.{tokens}
use Rattle.module_grammar.specs.Items.{attributes}
use Rattle.module_grammar.proofs.FormLaws.{form_tells, attributes_told}
use Rattle.module_grammar.proofs.reading.read_attributes.Goals as goal

pub returns : goal.returns
returns c = record {
  gives = c.attributes.ensures;
  longest = form_tells attributes attributes_told (tokens c.args.input.now) (drop c.args.at (tokens c.args.input.now)) c.attributes.result c.attributes.ensures;
}
