use Rattle.std.proofs.Common.{refl, arith}
use Rattle.ir_lex.specs.Places.{place_at}
use Rattle.ir_lex.proofs.lexer.Lexer.new.Goals as goal

pub invariant_of-result : goal.invariant_of-result
unfolding place_at
invariant_of-result c = record {
  size = c.requires;
  within = omega arith;
  place_is = refl;
  names_end = λ before. absurd (omega arith);
}
