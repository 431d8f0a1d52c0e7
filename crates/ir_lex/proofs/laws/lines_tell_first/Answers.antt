use Rattle.ir_lex.proofs.LineLaws.{lines_tell_first}
use Rattle.ir_lex.proofs.laws.lines_tell_first.Goals as goal

pub returns : goal.returns
returns c = lines_tell_first
