use Rattle.std.proofs.Common.{◌≡◌, ◌<◌, List, codes, drop, length, sym, subst, arith}
use Rattle.ir_values.specs.declared.constants.Const.{Const}
use Rattle.type_grammar.specs.Constants as spec
use Rattle.type_grammar.specs.Constants.{typed_list, more_typed}
use Rattle.type_grammar.specs.Reading.{reads}
use Rattle.unit_grammar.specs.Readers.{Read, read, many_read, sign_read}
use Rattle.unit_grammar.specs.Seeing.{Gives, tokens}
use Rattle.unit_grammar.specs.Signs.{mark}
use Rattle.unit_grammar.proofs.ListLemmas.{list_is}
use Rattle.unit_grammar.proofs.LoopLemmas.{turn_more}
use Rattle.type_grammar.proofs.constants.+constants.Goals as goal

pub more_typed-loop-turn-preserved : goal.more_typed-loop-turn-preserved
more_typed-loop-turn-preserved t c =
    let all = c.left-turn-end.ensures in
    let test = c.loop-turn-test.true in
    let less : c.loop-turn.turn < length (drop c.args.at (tokens c.args.input.now)) = omega arith in
    turn_more (sign_read (mark (codes ",")) (read (reads c.args.levels) spec.typed)) _ _ c.loop-turn.turn c.loop-turn.list c.add.new.self
    (drop c.loop-turn.at (tokens c.args.input.now)) (drop c.in-Ok.behind (tokens c.args.input.now)) c.in-Ok.item
    c.loop-turn.invariant less c.in-Ok.ensures c.in_ok-add-in-Ok.ensures.added

pub index_list-loop-turn-preserved : goal.index_list-loop-turn-preserved
index_list-loop-turn-preserved t c =
    let all = c.left-turn-end.ensures in
    let test = c.loop-turn-test.true in
    let less : c.loop-turn.turn < length (drop c.args.at (tokens c.args.input.now)) = omega arith in
    turn_more (read (reads c.args.levels) spec.index) _ _ c.loop-turn.turn c.loop-turn.list c.add.new.self
    (drop c.loop-turn.at (tokens c.args.input.now)) (drop c.in-Ok.behind (tokens c.args.input.now)) c.in-Ok.item
    c.loop-turn.invariant less c.in-Ok.ensures c.in_ok-add-in-Ok.ensures.added

pub typed_list-returns : goal.typed_list-returns
unfolding typed_list
typed_list-returns t c =
    let ts = drop c.args.at (tokens c.args.input.now) in
    subst (λ (r : Read (List Const)). Gives {A = List Const} (tokens c.args.input.now) c.listed_typed.result r)
    (sym (list_is (reads c.args.levels) (mark (codes ",")) spec.typed ts)) c.listed_typed.ensures

pub others_typed-returns : goal.others_typed-returns
unfolding more_typed
others_typed-returns t c =
    let ts = drop c.args.at (tokens c.args.input.now) in
    subst (λ (xs : List Const). Gives {A = List Const} (tokens c.args.input.now) c.more_typed.result
    (many_read (length ts) (sign_read (mark (codes ",")) (read (reads c.args.levels) spec.typed)) xs ts))
    c.new-list.ensures c.more_typed.ensures
