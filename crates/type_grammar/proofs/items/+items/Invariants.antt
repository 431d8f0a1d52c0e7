use Rattle.std.proofs.Common.{◌≡◌, ◌+◌, ◌-◌, ◌*◌, codes, drop, length}
use Rattle.type_grammar.specs.Names.{an_item}
use Rattle.type_grammar.specs.Reading.{reads}
use Rattle.unit_grammar.specs.Readers.{many_read, sign_read}
use Rattle.unit_grammar.specs.Seeing.{tokens}
use Rattle.unit_grammar.specs.Signs.{mark}
use Rattle.type_grammar.proofs.items.+items.Given as goal

abbrev pub decreases-listed_items : goal.decreases-listed_items
decreases-listed_items l = 10 * l.levels + 3

abbrev pub decreases-more_items : goal.decreases-more_items
decreases-more_items l = 10 * l.levels + 2

abbrev pub decreases-next_item : goal.decreases-next_item
decreases-next_item l = 10 * l.levels + 1

abbrev pub decreases-item_list : goal.decreases-item_list
decreases-item_list l = 10 * l.levels + 4

abbrev pub invariant-more_items-loop-turn : goal.invariant-more_items-loop-turn
invariant-more_items-loop-turn l =
    many_read (length (drop l.fn.at (tokens l.input))) (sign_read (mark (codes ",")) (reads l.levels an_item)) l.fn.given (drop l.fn.at (tokens l.input)) ≡
    many_read (length (drop l.fn.at (tokens l.input)) - l.turn) (sign_read (mark (codes ",")) (reads l.levels an_item)) l.list (drop l.at (tokens l.input))

abbrev pub decreases-item : goal.decreases-item
decreases-item l = 10 * l.levels + 0

abbrev pub decreases-nested : goal.decreases-nested
decreases-nested l = 10 * l.levels + 5

abbrev pub decreases-item_body : goal.decreases-item_body
decreases-item_body l = 10 * l.levels + 6
