use Rattle.std.proofs.Common.{◌<◌, [], ◌∷◌, ◌++◌, drop, length, refl, arith}
use Rattle.module_grammar.specs.LeftUnits as spec
use Rattle.type_grammar.specs.Levels.{levels}
use Rattle.type_grammar.specs.Reading.{reads}
use Rattle.unit_grammar.specs.Readers.{read}
use Rattle.unit_grammar.specs.Seeing.{tokens}
use Rattle.unit_grammar.proofs.LoopLemmas.{turn_more}
use Rattle.module_grammar.proofs.left_units.early_run.Goals as goal

pub loop-turn-preserved : goal.loop-turn-preserved
loop-turn-preserved c =
    let all = c.left-turn-end.ensures in
    let test = c.loop-turn-test.true in
    let less : c.loop-turn.turn < length (drop c.args.at (tokens c.args.input.now)) = omega arith in (
      c.loop-turn.invariant.0 ++ tt ∷ [],
      turn_more (read (reads levels) spec.early_word) _ _ c.loop-turn.turn c.loop-turn.invariant.0 (c.loop-turn.invariant.0 ++ tt ∷ [])
          (drop c.loop-turn.at (tokens c.args.input.now)) (drop c.in-Ok.behind (tokens c.args.input.now)) tt
          c.loop-turn.invariant.1 less c.in-Ok.ensures refl,
    )
