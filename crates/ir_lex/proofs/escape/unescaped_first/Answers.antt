use Rattle.std.proofs.lemmas.List.{take_rest}
use Rattle.ir_lex.proofs.EscapeLemmas.{unescaped_escape}
use Rattle.ir_lex.proofs.escape.unescaped_first.Goals as goal

pub returns-clause-reads : goal.returns-clause-reads
returns-clause-reads c =
    let e = unescaped_escape c.args.bytes.now c.requires c.if-byte-ne92.false in
    let rest = take_rest c.args.bytes.now 1 in
    rw (c.escape-byte.ensures.byte, c.escape-byte.ensures.len, rest) e
