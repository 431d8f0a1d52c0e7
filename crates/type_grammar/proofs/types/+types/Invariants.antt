use Rattle.std.proofs.Common.{◌≡◌, ◌+◌, ◌-◌, ◌*◌, codes, drop, length}
use Rattle.type_grammar.specs.Names.{a_type}
use Rattle.type_grammar.specs.Reading.{reads}
use Rattle.unit_grammar.specs.Readers.{many_read, sign_read}
use Rattle.unit_grammar.specs.Seeing.{tokens}
use Rattle.unit_grammar.specs.Signs.{mark}
use Rattle.type_grammar.proofs.types.+types.Given as goal

abbrev pub decreases-array : goal.decreases-array
decreases-array l = 10 * l.levels + 5

abbrev pub decreases-listed_types : goal.decreases-listed_types
decreases-listed_types l = 10 * l.levels + 3

abbrev pub decreases-more_types : goal.decreases-more_types
decreases-more_types l = 10 * l.levels + 2

abbrev pub decreases-next_type : goal.decreases-next_type
decreases-next_type l = 10 * l.levels + 1

abbrev pub decreases-packed : goal.decreases-packed
decreases-packed l = 10 * l.levels + 5

abbrev pub decreases-structure : goal.decreases-structure
decreases-structure l = 10 * l.levels + 5

abbrev pub decreases-ty : goal.decreases-ty
decreases-ty l = 10 * l.levels + 0

abbrev pub decreases-type_body : goal.decreases-type_body
decreases-type_body l = 10 * l.levels + 7

abbrev pub decreases-type_list : goal.decreases-type_list
decreases-type_list l = 10 * l.levels + 4

abbrev pub decreases-value_type_body : goal.decreases-value_type_body
decreases-value_type_body l = 10 * l.levels + 6

abbrev pub decreases-vector : goal.decreases-vector
decreases-vector l = 10 * l.levels + 5

abbrev pub invariant-more_types-loop-turn : goal.invariant-more_types-loop-turn
invariant-more_types-loop-turn l =
    many_read (length (drop l.fn.at (tokens l.input))) (sign_read (mark (codes ",")) (reads l.levels a_type)) l.fn.given (drop l.fn.at (tokens l.input)) ≡
    many_read (length (drop l.fn.at (tokens l.input)) - l.turn) (sign_read (mark (codes ",")) (reads l.levels a_type)) l.list (drop l.at (tokens l.input))
