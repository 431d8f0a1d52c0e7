use Rattle.std.proofs.Common.{◌≡◌, ◌-◌, [], drop, length}
use Rattle.unit_grammar.specs.Attachments as spec
use Rattle.unit_grammar.specs.Plain.{plain_read}
use Rattle.unit_grammar.specs.Readers.{many_read}
use Rattle.unit_grammar.specs.Seeing.{tokens}
use Rattle.unit_grammar.proofs.attached.all_attached.Given as goal

abbrev pub invariant-loop-turn : goal.invariant-loop-turn
invariant-loop-turn l =
    many_read (length (drop l.fn.at (tokens l.input))) (plain_read spec.attach) [] (drop l.fn.at (tokens l.input)) ≡
    many_read (length (drop l.fn.at (tokens l.input)) - l.turn) (plain_read spec.attach) l.list (drop l.at (tokens l.input))
