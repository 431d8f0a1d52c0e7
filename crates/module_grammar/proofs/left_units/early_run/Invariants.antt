use Rattle.std.proofs.Common.{◌≡◌, ◌-◌, List, [], drop, length}
use Rattle.module_grammar.specs.LeftUnits as spec
use Rattle.type_grammar.specs.Levels.{levels}
use Rattle.type_grammar.specs.Reading.{reads}
use Rattle.unit_grammar.specs.Readers.{many_read, read}
use Rattle.unit_grammar.specs.Seeing.{tokens}
use Rattle.module_grammar.proofs.left_units.early_run.Given as goal

abbrev pub invariant-loop-turn : goal.invariant-loop-turn
invariant-loop-turn l =
    (given : List (Unit {0})) ×
    (many_read (length (drop l.fn.at (tokens l.input))) (read (reads levels) spec.early_word) [] (drop l.fn.at (tokens l.input)) ≡
    many_read (length (drop l.fn.at (tokens l.input)) - l.turn) (read (reads levels) spec.early_word) given (drop l.at (tokens l.input)))
