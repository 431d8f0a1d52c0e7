use Rattle.std.proofs.Common.{drop}
use Rattle.unit_grammar.specs.Seeing.{tokens}
use Rattle.module_grammar.proofs.LeftLaws.{left_tells}
use Rattle.module_grammar.proofs.reading.read_left_unit.Goals as goal

pub returns : goal.returns
returns c = record {
  gives = c.left_unit.ensures;
  longest = left_tells (tokens c.args.input.now) (drop c.args.at (tokens c.args.input.now)) c.left_unit.result c.left_unit.ensures;
}
