use Rattle.std.proofs.Common.{◌≡◌, ◌-◌, List, [], drop, length}
use Rattle.type_grammar.specs.Constants as spec
use Rattle.type_grammar.specs.Reading.{reads}
use Rattle.unit_grammar.specs.Readers.{many_read, read}
use Rattle.unit_grammar.specs.Seeing.{tokens}
use Rattle.type_grammar.proofs.constants.address_run.Given as goal

abbrev pub invariant-loop-turn : goal.invariant-loop-turn
invariant-loop-turn l =
    (given : List (Unit {0})) ×
    (many_read (length (drop l.fn.at (tokens l.input))) (read (reads l.levels) spec.address_word) [] (drop l.fn.at (tokens l.input)) ≡
    many_read (length (drop l.fn.at (tokens l.input)) - l.turn) (read (reads l.levels) spec.address_word) given (drop l.at (tokens l.input)))
