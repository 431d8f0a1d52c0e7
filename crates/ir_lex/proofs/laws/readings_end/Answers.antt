use Rattle.ir_lex.proofs.TextLaws.{readings_end}
use Rattle.ir_lex.proofs.laws.readings_end.Goals as goal

pub returns : goal.returns
returns c = readings_end
