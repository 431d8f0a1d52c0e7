use Rattle.std.proofs.Common.{◌≡◌, ◌-◌, [], drop, length}
use Rattle.module_grammar.specs.Tables as spec
use Rattle.type_grammar.specs.Levels.{levels}
use Rattle.type_grammar.specs.Reading.{reads}
use Rattle.unit_grammar.specs.Readers.{many_read, read}
use Rattle.unit_grammar.specs.Seeing.{tokens}
use Rattle.module_grammar.proofs.tables.other_functions.Given as goal

abbrev pub invariant-loop-turn : goal.invariant-loop-turn
invariant-loop-turn l =
    many_read (length (drop l.fn.at (tokens l.input))) (read (reads levels) spec.next_function) [] (drop l.fn.at (tokens l.input)) ≡
    many_read (length (drop l.fn.at (tokens l.input)) - l.turn) (read (reads levels) spec.next_function) l.list (drop l.at (tokens l.input))
