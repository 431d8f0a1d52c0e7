use Rattle.due_answers.proofs.DueLaws.{accepted_is_done}
use Rattle.due_answers.proofs.laws.accepted_is_done.Goals as goal

pub returns : goal.returns
returns c = accepted_is_done c.one_is_due.ensures
