use Rattle.std.proofs.Common.{◌≡◌, ◌<◌, List, codes, drop, length, sym, subst, arith}
use Rattle.ir_values.specs.declared.units.MetaItem.{MetaItem}
use Rattle.type_grammar.specs.Names.{an_item}
use Rattle.type_grammar.specs.Reading.{reads}
use Rattle.type_grammar.specs.Items.{item_list}
use Rattle.unit_grammar.specs.Grammar.{at}
use Rattle.unit_grammar.specs.Readers.{Read, many_read, sign_read}
use Rattle.unit_grammar.specs.Seeing.{Gives, tokens}
use Rattle.unit_grammar.specs.Signs.{mark}
use Rattle.unit_grammar.proofs.ListLemmas.{list_is}
use Rattle.unit_grammar.proofs.LoopLemmas.{turn_more}
use Rattle.type_grammar.proofs.items.+items.Goals as goal

pub more_items-loop-turn-preserved : goal.more_items-loop-turn-preserved
more_items-loop-turn-preserved t c =
    let all = c.left-turn-end.ensures in
    let test = c.loop-turn-test.true in
    let less : c.loop-turn.turn < length (drop c.args.at (tokens c.args.input.now)) = omega arith in
    turn_more (sign_read (mark (codes ",")) (reads c.args.levels an_item)) _ _ c.loop-turn.turn c.loop-turn.list c.add.new.self
    (drop c.loop-turn.at (tokens c.args.input.now)) (drop c.in-Ok.behind (tokens c.args.input.now)) c.in-Ok.item
    c.loop-turn.invariant less c.in-Ok.ensures c.in_ok-add-in-Ok.ensures.added

pub item_list-returns : goal.item_list-returns
unfolding item_list
item_list-returns t c =
    let ts = drop c.args.at (tokens c.args.input.now) in
    subst (λ (r : Read (List MetaItem)). Gives {A = List MetaItem} (tokens c.args.input.now) c.listed_items.result r)
    (sym (list_is (reads c.args.levels) (mark (codes ",")) (at an_item) ts)) c.listed_items.ensures
