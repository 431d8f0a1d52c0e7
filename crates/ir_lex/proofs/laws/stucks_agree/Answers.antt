use Rattle.ir_lex.proofs.TextLaws.{stucks_agree}
use Rattle.ir_lex.proofs.laws.stucks_agree.Goals as goal

pub returns : goal.returns
returns c = stucks_agree
