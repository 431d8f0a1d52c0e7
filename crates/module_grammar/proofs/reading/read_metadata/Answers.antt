use Rattle.std.proofs.Common.{drop}
use Rattle.unit_grammar.specs.Seeing.{tokens}
use Rattle.module_grammar.specs.Metadata.{metadata}
use Rattle.module_grammar.proofs.FormLaws.{form_tells, metadata_told}
use Rattle.module_grammar.proofs.reading.read_metadata.Goals as goal

pub returns : goal.returns
returns c = record {
  gives = c.metadata.ensures;
  longest = form_tells metadata metadata_told (tokens c.args.input.now) (drop c.args.at (tokens c.args.input.now)) c.metadata.result c.metadata.ensures;
}
