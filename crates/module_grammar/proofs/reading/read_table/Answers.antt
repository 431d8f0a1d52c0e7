use Rattle.std.proofs.Common.{drop}
use Rattle.unit_grammar.specs.Seeing.{tokens}
use Rattle.module_grammar.specs.Tables.{table}
use Rattle.module_grammar.proofs.FormLaws.{form_tells, table_told}
use Rattle.module_grammar.proofs.reading.read_table.Goals as goal

pub returns : goal.returns
returns c = record {
  gives = c.table.ensures;
  longest = form_tells table table_told (tokens c.args.input.now) (drop c.args.at (tokens c.args.input.now)) c.table.result c.table.ensures;
}
