use Rattle.std.proofs.Common.{◌≡◌, ◌+◌, ◌-◌, ◌*◌, [], codes, drop, length}
use Rattle.type_grammar.specs.Constants as spec
use Rattle.type_grammar.specs.Reading.{reads}
use Rattle.unit_grammar.specs.Readers.{many_read, read, sign_read}
use Rattle.unit_grammar.specs.Seeing.{tokens}
use Rattle.unit_grammar.specs.Signs.{mark}
use Rattle.type_grammar.proofs.constants.+constants.Given as goal

abbrev pub decreases-array : goal.decreases-array
decreases-array l = 10 * l.levels + 8

abbrev pub decreases-constant : goal.decreases-constant
decreases-constant l = 10 * l.levels + 0

abbrev pub decreases-constant_body : goal.decreases-constant_body
decreases-constant_body l = 10 * l.levels + 9

abbrev pub decreases-index : goal.decreases-index
decreases-index l = 10 * l.levels + 4

abbrev pub decreases-index_list : goal.decreases-index_list
decreases-index_list l = 10 * l.levels + 5

abbrev pub decreases-listed_typed : goal.decreases-listed_typed
decreases-listed_typed l = 10 * l.levels + 6

abbrev pub decreases-more_typed : goal.decreases-more_typed
decreases-more_typed l = 10 * l.levels + 5

abbrev pub decreases-moved : goal.decreases-moved
decreases-moved l = 10 * l.levels + 8

abbrev pub decreases-others_typed : goal.decreases-others_typed
decreases-others_typed l = 10 * l.levels + 6

abbrev pub decreases-next_typed : goal.decreases-next_typed
decreases-next_typed l = 10 * l.levels + 4

abbrev pub decreases-structure : goal.decreases-structure
decreases-structure l = 10 * l.levels + 8

abbrev pub decreases-typed : goal.decreases-typed
decreases-typed l = 10 * l.levels + 3

abbrev pub decreases-typed_list : goal.decreases-typed_list
decreases-typed_list l = 10 * l.levels + 7

abbrev pub invariant-more_typed-loop-turn : goal.invariant-more_typed-loop-turn
invariant-more_typed-loop-turn l =
    many_read (length (drop l.fn.at (tokens l.input))) (sign_read (mark (codes ",")) (read (reads l.levels) spec.typed)) l.fn.given (drop l.fn.at (tokens l.input)) ≡
    many_read (length (drop l.fn.at (tokens l.input)) - l.turn) (sign_read (mark (codes ",")) (read (reads l.levels) spec.typed)) l.list (drop l.at (tokens l.input))

abbrev pub invariant-index_list-loop-turn : goal.invariant-index_list-loop-turn
invariant-index_list-loop-turn l =
    many_read (length (drop l.fn.at (tokens l.input))) (read (reads l.levels) spec.index) [] (drop l.fn.at (tokens l.input)) ≡
    many_read (length (drop l.fn.at (tokens l.input)) - l.turn) (read (reads l.levels) spec.index) l.list (drop l.at (tokens l.input))
