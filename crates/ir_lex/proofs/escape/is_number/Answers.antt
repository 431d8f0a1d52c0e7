use Rattle.ir_lex.proofs.EscapeLemmas.{zero_number}
use Rattle.ir_lex.proofs.escape.is_number.Goals as goal

pub returns-then-first-eq48 : goal.returns-then-first-eq48
returns-then-first-eq48 c =
    let r = c.unescaped_first-first in
    zero_number c.args.bytes.now r.result.0 r.result.1 r.ensures.reads c.if-first-eq48.true r.ensures.within
