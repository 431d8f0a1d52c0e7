use Rattle.std.proofs.Common.{◌-◌, length}
use Rattle.ir_text.specs.Lexing.{Collected}
use Rattle.ir_text.proofs.lexing.collect.Given as goal

abbrev pub invariant-each : goal.invariant-each
invariant-each l = Collected l.file l.text l.lexer l.tokens

abbrev pub decreases-each : goal.decreases-each
decreases-each l = length l.text - l.lexer.at
