use Rattle.std.proofs.Common.{List, sym, subst}
use Rattle.ir_lex.specs.declared.token.Token.{Token}
use Rattle.ir_text.specs.Lexing.{Collected}
use Rattle.ir_text.proofs.ReadLaws.{ok_of}
use Rattle.ir_text.proofs.LexLaws.{smaller, collects, collected, fails}
use Rattle.ir_text.proofs.lexing.collect.Goals as goal

pub each-smaller : goal.each-smaller
each-smaller c =
    let next = rw c.in-Ok-Some.field-0-is at c.in-Ok-Some.ensures in
    smaller c.args.file c.args.text.now c.each.lexer c.next_token.new.lexer c.each.tokens c.in-Ok-Some.token c.each.invariant next.0 next.1

pub each-preserved : goal.each-preserved
each-preserved c =
    let next = rw c.in-Ok-Some.field-0-is at c.in-Ok-Some.ensures in
    let added = ok_of _ _ c.if-is_err.ensures.value c.push.ensures.added in
    subst (λ (ts : List Token). Collected c.args.file c.args.text.now c.next_token.new.lexer ts) (sym added)
    (collects c.args.file c.args.text.now c.each.lexer c.next_token.new.lexer c.each.tokens c.in-Ok-Some.token c.each.invariant next.0 next.1)

pub returns-in-Ok-None : goal.returns-in-Ok-None
returns-in-Ok-None c =
    collected c.args.file c.args.text.now c.each.lexer c.each.tokens c.each.invariant (rw c.in-Ok-None.field-0-is at c.in-Ok-None.ensures)

pub returns-in-Err : goal.returns-in-Err
returns-in-Err c = fails c.args.file c.args.text.now c.each.lexer c.each.tokens c.in-Err.fault c.each.invariant c.in-Err.ensures
