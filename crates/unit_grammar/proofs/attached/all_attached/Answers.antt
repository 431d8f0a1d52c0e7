use Rattle.std.proofs.Common.{◌≡◌, ℕ, ◌+◌, ◌-◌, suc, [], ◌∷◌, ◌++◌, List, drop, length, ◌∙◌, sym, ap, arith}
use Rattle.ir_values.specs.declared.units.Attach.{Attach}
use Rattle.unit_grammar.specs.Attachments as spec
use Rattle.unit_grammar.specs.Plain.{plain_read}
use Rattle.unit_grammar.specs.Readers.{many_read}
use Rattle.unit_grammar.specs.Seeing.{tokens}
use Rattle.unit_grammar.proofs.LoopLemmas.{one_more}
use Rattle.unit_grammar.proofs.attached.all_attached.Goals as goal

pub loop-turn-preserved : goal.loop-turn-preserved
loop-turn-preserved c =
    let ts = tokens c.args.input.now in
    let turns : ℕ = length (drop c.args.at ts) in
    let all : c.left-turn-end.result ≡ turns = c.left-turn-end.ensures in
    let less = c.loop-turn-test.true in
    let count : turns - c.loop-turn.turn ≡ suc (turns - (c.loop-turn.turn + 1)) = omega arith in
    let added : c.add.new.self ≡ c.loop-turn.list ++ c.in-Ok.item ∷ [] = c.in_ok-add-in-Ok.ensures.added in
    c.loop-turn.invariant
    ∙ one_more _ _ (plain_read spec.attach) c.loop-turn.list _ (drop c.in-Ok.behind ts) c.in-Ok.item count c.in-Ok.ensures
    ∙ ap (λ (xs : List Attach). many_read (turns - (c.loop-turn.turn + 1)) (plain_read spec.attach) xs (drop c.in-Ok.behind ts)) (sym added)
