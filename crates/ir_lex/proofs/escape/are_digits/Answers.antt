use Rattle.std.proofs.Common.{◌∙◌, sym, ap, arith, length-drop, drop, ℕ}
use Rattle.std.specs.List.{list_all}
use Rattle.std.specs.Char.{is_ascii_digit}
use Rattle.ir_lex.proofs.EscapeLemmas.{unescaped_none}
use Rattle.ir_lex.proofs.escape.are_digits.Goals as goal

pub returns : goal.returns
returns c =
    sym (ap (list_all is_ascii_digit) (unescaped_none (drop c.bytes.at c.args.bytes.now) (omega (arith, length-drop {A = ℕ})))) ∙ c.bytes.invariant.rest
