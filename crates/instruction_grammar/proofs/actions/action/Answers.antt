use Rattle.std.proofs.Common.{drop}
use Rattle.unit_grammar.specs.Seeing.{tokens}
use Rattle.unit_grammar.proofs.AnswerLaws.{tells}
use Rattle.instruction_grammar.proofs.ActionLaws.{action_exact}
use Rattle.instruction_grammar.proofs.actions.action.Goals as goal

pub returns : goal.returns
returns c = record {
  gives = c.whole_action.ensures;
  longest = tells action_exact (tokens c.args.input.now) (drop c.args.at (tokens c.args.input.now)) c.whole_action.result c.whole_action.ensures;
}
