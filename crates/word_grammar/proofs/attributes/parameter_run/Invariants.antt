use Rattle.std.proofs.Common.{◌≡◌, ◌-◌, ℕ, List, [], Option, drop, length}
use Rattle.type_grammar.specs.Levels.{levels}
use Rattle.type_grammar.specs.Reading.{reads}
use Rattle.unit_grammar.specs.Readers.{many_read, read}
use Rattle.unit_grammar.specs.Seeing.{tokens}
use Rattle.word_grammar.specs.Attributes as spec
use Rattle.word_grammar.proofs.attributes.parameter_run.Given as goal

abbrev pub invariant-loop-turn : goal.invariant-loop-turn
invariant-loop-turn l =
    (given : List (Option (List ℕ))) ×
    (many_read (length (drop l.fn.at (tokens l.input))) (read (reads levels) spec.parameter_word) [] (drop l.fn.at (tokens l.input)) ≡
    many_read (length (drop l.fn.at (tokens l.input)) - l.turn) (read (reads levels) spec.parameter_word) given (drop l.at (tokens l.input)))
    × (l.list ≡ spec.said given)
