use Rattle.std.proofs.Common.{drop}
use Rattle.unit_grammar.specs.Seeing.{tokens}
use Rattle.module_grammar.specs.Headers.{header}
use Rattle.module_grammar.proofs.FormLaws.{form_tells, header_told}
use Rattle.module_grammar.proofs.reading.read_header.Goals as goal

pub returns : goal.returns
returns c = record {
  gives = c.header.ensures;
  longest = form_tells header header_told (tokens c.args.input.now) (drop c.args.at (tokens c.args.input.now)) c.header.result c.header.ensures;
}
