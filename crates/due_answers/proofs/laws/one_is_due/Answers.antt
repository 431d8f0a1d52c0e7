use Rattle.due_answers.proofs.DueLaws.{one_is_due}
use Rattle.due_answers.proofs.laws.one_is_due.Goals as goal

pub returns : goal.returns
returns c = one_is_due (record {
  agree = c.answers_agree.ensures.agree;
  end = c.answers_agree.ensures.end;
  refusals = c.answers_agree.ensures.refusals;
}) c.thin_is_determined.ensures
