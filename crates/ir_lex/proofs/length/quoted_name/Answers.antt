use Rattle.std.proofs.Common.{true, false, sym, ◌∙◌}
use Rattle.ir_lex.proofs.LengthLemmas.{named}
use Rattle.ir_lex.proofs.length.quoted_name.Goals as goal

pub returns-then-is_number-clause-len : goal.returns-then-is_number-clause-len
returns-then-is_number-clause-len c =
    sym (named c.args.bytes.now c.in_ok-n.n true (sym c.in_ok-n.ensures.len) c.in_ok-n.ensures.within (sym c.if-is_number.true ∙ c.is_number.ensures))

pub returns-clause-len : goal.returns-clause-len
returns-clause-len c =
    sym (named c.args.bytes.now c.in_ok-n.n false (sym c.in_ok-n.ensures.len) c.in_ok-n.ensures.within (sym c.if-is_number.false ∙ c.is_number.ensures))
