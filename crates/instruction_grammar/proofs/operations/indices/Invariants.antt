use Rattle.std.proofs.Common.{◌≡◌, ◌-◌, [], drop, length}
use Rattle.type_grammar.specs.Levels.{levels}
use Rattle.type_grammar.specs.Reading.{reads}
use Rattle.unit_grammar.specs.Readers.{many_read, read}
use Rattle.unit_grammar.specs.Seeing.{tokens}
use Rattle.instruction_grammar.specs.Operands as spec
use Rattle.instruction_grammar.proofs.operations.indices.Given as goal

abbrev pub invariant-loop-turn : goal.invariant-loop-turn
invariant-loop-turn l =
    many_read (length (drop l.fn.at (tokens l.input))) (read (reads levels) spec.next_typed_value) [] (drop l.fn.at (tokens l.input)) ≡
    many_read (length (drop l.fn.at (tokens l.input)) - l.turn) (read (reads levels) spec.next_typed_value) l.list (drop l.at (tokens l.input))
