use Rattle.std.proofs.Common.{◌<◌, refl, arith}
use Rattle.std.specs.List.{prefix_len}
use Rattle.std.proofs.lemmas.List.Sums.{prefix_len-le-length}
use Rattle.ir_lex.specs.Letters.{is_name_byte}
use Rattle.ir_lex.specs.Lengths.{label_name}
use Rattle.ir_lex.proofs.LengthLemmas.{names_run, no_run, no_quoted}
use Rattle.ir_lex.proofs.length.label_name.Goals as goal

pub returns-then-names-gt0-clause-len : goal.returns-then-names-gt0-clause-len
unfolding label_name
returns-then-names-gt0-clause-len c =
    let some : 0 < prefix_len is_name_byte c.args.bytes.now = omega arith in
    rw (names_run is_name_byte c.args.bytes.now c.args.names c.requires c.if-names-gt0.true, no_quoted c.args.bytes.now some) refl

pub returns-then-names-gt0-clause-within : goal.returns-then-names-gt0-clause-within
returns-then-names-gt0-clause-within c = omega (arith, prefix_len-le-length is_name_byte c.args.bytes.now)

pub returns-clause-len : goal.returns-clause-len
unfolding label_name
returns-clause-len c =
    rw (no_run is_name_byte c.args.bytes.now c.args.names c.requires (omega arith)) c.quoted_name.ensures.len
