use Rattle.source_runs.proofs.AnswerLaws.{answers_are_read, only_answers_are_read}
use Rattle.source_runs.proofs.laws.answers_are_decimals.Goals as goal

pub returns-clause-read : goal.returns-clause-read
returns-clause-read c = answers_are_read

pub returns-clause-only : goal.returns-clause-only
returns-clause-only c = only_answers_are_read
