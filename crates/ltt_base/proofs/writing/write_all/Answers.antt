use Rattle.std.proofs.Common.{◌≡◌, ◌-◌, arith, length, take, drop}
use Rattle.std.proofs.lemmas.Grind.{common_steps}
use Rattle.ltt_base.proofs.OutsideLemmas.{Took_more}
use Rattle.ltt_base.proofs.writing.write_all.Goals as goal

pub loop-done-preserved : goal.loop-done-preserved
loop-done-preserved g c =
    let text = c.args.text.now in
    let done = c.loop-done.done in
    let piece : take (length text - done) (drop done text) ≡ drop done text = grind (arith, common_steps) in
    let took = c.in_ok-done.ensures.took in
    let more = Took_more _ _ _ text _ done c.in_ok-done.field-0 piece c.loop-done.invariant.1 took.2 in
    (grind (arith, common_steps), more, omega arith, λ none. absurd (omega arith))
