use Rattle.ir_text.proofs.AnswerLaws.{reads_agree, reads_end, refusals_agree}
use Rattle.ir_text.proofs.laws.answers_agree.Goals as goal

pub returns : goal.returns
returns c = record {
  agree = reads_agree c.readings_agree.ensures;
  end = reads_end c.readings_agree.ensures c.readings_end.ensures;
  refusals = refusals_agree c.readings_agree.ensures c.readings_end.ensures c.stucks_agree.ensures;
}
