use Rattle.std.proofs.Common.{◌≡◌, ◌<◌, List, codes, drop, length, sym, subst, arith}
use Rattle.ir_values.specs.declared.types.Ty.{Ty}
use Rattle.type_grammar.specs.Names.{a_type}
use Rattle.type_grammar.specs.Reading.{reads}
use Rattle.type_grammar.specs.Types.{type_list}
use Rattle.unit_grammar.specs.Grammar.{at}
use Rattle.unit_grammar.specs.Readers.{Read, many_read, sign_read}
use Rattle.unit_grammar.specs.Seeing.{Gives, tokens}
use Rattle.unit_grammar.specs.Signs.{mark}
use Rattle.unit_grammar.proofs.ListLemmas.{list_is}
use Rattle.unit_grammar.proofs.LoopLemmas.{turn_more}
use Rattle.type_grammar.proofs.types.+types.Goals as goal

pub more_types-loop-turn-preserved : goal.more_types-loop-turn-preserved
more_types-loop-turn-preserved t c =
    let all = c.left-turn-end.ensures in
    let test = c.loop-turn-test.true in
    let less : c.loop-turn.turn < length (drop c.args.at (tokens c.args.input.now)) = omega arith in
    turn_more (sign_read (mark (codes ",")) (reads c.args.levels a_type)) _ _ c.loop-turn.turn c.loop-turn.list c.add.new.self
    (drop c.loop-turn.at (tokens c.args.input.now)) (drop c.in-Ok.behind (tokens c.args.input.now)) c.in-Ok.item
    c.loop-turn.invariant less c.in-Ok.ensures c.in_ok-add-in-Ok.ensures.added

pub type_list-returns : goal.type_list-returns
unfolding type_list
type_list-returns t c =
    let ts = drop c.args.at (tokens c.args.input.now) in
    subst (λ (r : Read (List Ty)). Gives {A = List Ty} (tokens c.args.input.now) c.listed_types.result r)
    (sym (list_is (reads c.args.levels) (mark (codes ",")) (at a_type) ts)) c.listed_types.ensures
