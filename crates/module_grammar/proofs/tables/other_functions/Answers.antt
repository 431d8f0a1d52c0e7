use Rattle.std.proofs.Common.{◌<◌, drop, length, arith}
use Rattle.module_grammar.specs.Tables as spec
use Rattle.type_grammar.specs.Levels.{levels}
use Rattle.type_grammar.specs.Reading.{reads}
use Rattle.unit_grammar.specs.Readers.{read}
use Rattle.unit_grammar.specs.Seeing.{tokens}
use Rattle.unit_grammar.proofs.LoopLemmas.{turn_more}
use Rattle.module_grammar.proofs.tables.other_functions.Goals as goal

pub loop-turn-preserved : goal.loop-turn-preserved
loop-turn-preserved c =
    let all = c.left-turn-end.ensures in
    let test = c.loop-turn-test.true in
    let less : c.loop-turn.turn < length (drop c.args.at (tokens c.args.input.now)) = omega arith in
    turn_more (read (reads levels) spec.next_function) _ _ c.loop-turn.turn c.loop-turn.list c.add.new.self
    (drop c.loop-turn.at (tokens c.args.input.now)) (drop c.in-Ok.behind (tokens c.args.input.now)) c.in-Ok.item
    c.loop-turn.invariant less c.in-Ok.ensures c.in_ok-add-in-Ok.ensures.added
