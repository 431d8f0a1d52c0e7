use Rattle.ir_lex.specs.Letters.{is_name_byte}
use Rattle.ir_lex.proofs.NameLemmas.{run_over}
use Rattle.ir_lex.proofs.lexer.names_end.Goals as goal

pub returns-then-at-names : goal.returns-then-at-names
returns-then-at-names c = record {
  end = run_over is_name_byte c.args.text.now c.args.before c.args.at c.args.names c.requires.order c.if-at-names.true c.requires.names;
}
