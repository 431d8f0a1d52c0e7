use Rattle.std.proofs.Common.{drop}
use Rattle.unit_grammar.specs.Seeing.{tokens}
use Rattle.module_grammar.specs.Items.{type_body}
use Rattle.module_grammar.proofs.FormLaws.{form_tells, type_body_told}
use Rattle.module_grammar.proofs.reading.read_type_body.Goals as goal

pub returns : goal.returns
returns c = record {
  gives = c.type_body.ensures;
  longest = form_tells type_body type_body_told (tokens c.args.input.now) (drop c.args.at (tokens c.args.input.now)) c.type_body.result c.type_body.ensures;
}
