use Rattle.std.proofs.Common.{◌≡◌, ◌-◌, List, [], drop, length}
use Rattle.head_grammar.specs.declared.attached.Attached.{Attached}
use Rattle.type_grammar.specs.Levels.{levels}
use Rattle.type_grammar.specs.Reading.{reads}
use Rattle.unit_grammar.specs.Readers.{many_read, read}
use Rattle.unit_grammar.specs.Seeing.{tokens}
use Rattle.head_grammar.specs.Extras as spec
use Rattle.head_grammar.proofs.extras.all_attached.Given as goal

abbrev pub invariant-loop-turn : goal.invariant-loop-turn
invariant-loop-turn l =
    (given : List Attached) ×
    (many_read (length (drop l.fn.at (tokens l.input))) (read (reads levels) spec.attached) [] (drop l.fn.at (tokens l.input)) ≡
    many_read (length (drop l.fn.at (tokens l.input)) - l.turn) (read (reads levels) spec.attached) given (drop l.at (tokens l.input)))
    × (l.all.attached ≡ spec.attachments_of given) × (l.all.left ≡ spec.left_of given)
