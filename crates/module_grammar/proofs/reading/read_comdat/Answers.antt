use Rattle.std.proofs.Common.{drop}
use Rattle.unit_grammar.specs.Seeing.{tokens}
use Rattle.module_grammar.specs.Items.{comdat}
use Rattle.module_grammar.proofs.FormLaws.{form_tells, comdat_told}
use Rattle.module_grammar.proofs.reading.read_comdat.Goals as goal

pub returns : goal.returns
returns c = record {
  gives = c.comdat.ensures;
  longest = form_tells comdat comdat_told (tokens c.args.input.now) (drop c.args.at (tokens c.args.input.now)) c.comdat.result c.comdat.ensures;
}
