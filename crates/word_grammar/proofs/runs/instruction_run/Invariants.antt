use Rattle.std.proofs.Common.{◌≡◌, ◌-◌, List, [], drop, length}
use Rattle.type_grammar.specs.Levels.{levels}
use Rattle.type_grammar.specs.Reading.{reads}
use Rattle.unit_grammar.specs.Grammar.{sign}
use Rattle.unit_grammar.specs.Readers.{many_read, read}
use Rattle.unit_grammar.specs.Seeing.{tokens}
use Rattle.unit_grammar.specs.Signs.{words}
use Rattle.word_grammar.specs.Runs as spec
use Rattle.word_grammar.proofs.runs.instruction_run.Given as goal

abbrev pub invariant-loop-turn : goal.invariant-loop-turn
invariant-loop-turn l =
    (given : List (Unit {0})) ×
    (many_read (length (drop l.fn.at (tokens l.input))) (read (reads levels) (sign (words spec.instruction_words))) [] (drop l.fn.at (tokens l.input)) ≡
    many_read (length (drop l.fn.at (tokens l.input)) - l.turn) (read (reads levels) (sign (words spec.instruction_words))) given (drop l.at (tokens l.input)))
