use Rattle.std.proofs.Common.{drop}
use Rattle.type_grammar.specs.Levels.{levels}
use Rattle.unit_grammar.specs.Seeing.{tokens}
use Rattle.unit_grammar.proofs.AnswerLaws.{tells}
use Rattle.head_grammar.proofs.HeadLaws.{variable_exact}
use Rattle.head_grammar.proofs.variables.read_variable.Goals as goal

pub returns : goal.returns
returns c = record {
  gives = c.variable.ensures;
  longest = tells (variable_exact levels) (tokens c.args.input.now) (drop c.args.at (tokens c.args.input.now)) c.variable.result c.variable.ensures;
}
