use Rattle.std.proofs.Common.{drop}
use Rattle.unit_grammar.specs.Seeing.{tokens}
use Rattle.unit_grammar.proofs.AnswerLaws.{tells}
use Rattle.instruction_grammar.proofs.ActionLaws.{plain_action_exact}
use Rattle.instruction_grammar.proofs.actions.plain_action.Goals as goal

pub returns : goal.returns
returns c = record {
  gives = c.whole_plain_action.ensures;
  longest = tells plain_action_exact (tokens c.args.input.now) (drop c.args.at (tokens c.args.input.now)) c.whole_plain_action.result c.whole_plain_action.ensures;
}
