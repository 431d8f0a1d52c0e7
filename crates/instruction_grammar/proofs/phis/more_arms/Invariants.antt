use Rattle.std.proofs.Common.{◌≡◌, ◌-◌, codes, drop, length}
use Rattle.type_grammar.specs.Levels.{levels}
use Rattle.type_grammar.specs.Reading.{reads}
use Rattle.unit_grammar.specs.Readers.{many_read, read, sign_read}
use Rattle.unit_grammar.specs.Seeing.{tokens}
use Rattle.unit_grammar.specs.Signs.{mark}
use Rattle.instruction_grammar.specs.Memory as spec
use Rattle.instruction_grammar.proofs.phis.more_arms.Given as goal

abbrev pub invariant-loop-turn : goal.invariant-loop-turn
invariant-loop-turn l =
    many_read (length (drop l.fn.at (tokens l.input))) (sign_read (mark (codes ",")) (read (reads levels) (spec.arm_of l.ty))) l.fn.given (drop l.fn.at (tokens l.input)) ≡
    many_read (length (drop l.fn.at (tokens l.input)) - l.turn) (sign_read (mark (codes ",")) (read (reads levels) (spec.arm_of l.ty))) l.list (drop l.at (tokens l.input))
