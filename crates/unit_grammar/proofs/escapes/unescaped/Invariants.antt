use Rattle.std.proofs.Common.{◌≡◌, ◌++◌, length}
use Rattle.ir_lex.specs.Names.{unescaped_from}
use Rattle.unit_grammar.proofs.escapes.unescaped.Given as goal

abbrev pub invariant-loop-rest : goal.invariant-loop-rest
invariant-loop-rest l = l.out ++ unescaped_from l.left l.rest ≡ unescaped_from 0 l.bytes

abbrev pub decreases-loop-rest : goal.decreases-loop-rest
decreases-loop-rest l = length l.rest
