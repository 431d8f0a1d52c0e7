use Rattle.std.proofs.Common.{drop}
use Rattle.unit_grammar.specs.Seeing.{tokens}
use Rattle.module_grammar.proofs.EntryLaws.{entry_tells}
use Rattle.module_grammar.proofs.reading.read_entry.Goals as goal

pub returns : goal.returns
returns c = record {
  gives = c.entry.ensures;
  longest = entry_tells (tokens c.args.input.now) (drop c.args.at (tokens c.args.input.now)) c.entry.result c.entry.ensures;
}
