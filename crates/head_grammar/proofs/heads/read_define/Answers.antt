use Rattle.std.proofs.Common.{drop}
use Rattle.type_grammar.specs.Levels.{levels}
use Rattle.unit_grammar.specs.Seeing.{tokens}
use Rattle.unit_grammar.proofs.AnswerLaws.{tells}
use Rattle.head_grammar.proofs.HeadLaws.{define_exact}
use Rattle.head_grammar.proofs.heads.read_define.Goals as goal

pub returns : goal.returns
returns c = record {
  gives = c.define.ensures;
  longest = tells (define_exact levels) (tokens c.args.input.now) (drop c.args.at (tokens c.args.input.now)) c.define.result c.define.ensures;
}
