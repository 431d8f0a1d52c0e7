use Rattle.ir_lex.proofs.TextLaws.{readings_agree}
use Rattle.ir_lex.proofs.laws.readings_agree.Goals as goal

pub returns : goal.returns
returns c = readings_agree
