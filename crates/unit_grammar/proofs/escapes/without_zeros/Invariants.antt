use Rattle.std.proofs.Common.{◌≡◌, length}
use Rattle.ir_lex.specs.Names as spec
use Rattle.unit_grammar.proofs.escapes.without_zeros.Given as goal

abbrev pub invariant-loop-rest : goal.invariant-loop-rest
invariant-loop-rest l = spec.without_zeros l.rest ≡ spec.without_zeros l.bytes

abbrev pub decreases-loop-rest : goal.decreases-loop-rest
decreases-loop-rest l = length l.rest
