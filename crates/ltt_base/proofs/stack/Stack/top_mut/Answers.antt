use Rattle.std.proofs.Common.{◌≡◌, ◌∷◌, ◌-◌, ◌<◌, refl, sym, ap, ◌∙◌, length, drop, reverse, slice_get, slice_set, arith}
use Rattle.std.proofs.lemmas.List.{length-reverse}
use Rattle.ltt_base.proofs.StackLemmas.{reverse-set_last, top-reverse}
use Rattle.ltt_base.proofs.stack.Stack.top_mut.Goals as goal

pub returns : goal.returns
returns g c =
    let items = c.self.inside.items in
    let seen : reverse items ≡ c.args.self.now = c.self.view_is in
    let count = c.len-last.ensures in
    let some : 0 < length items = omega (arith, length-reverse items, ap length seen) in
    let value = ap (λ n. slice_get items (n - 1)) (sym count) ∙ c.at_mut.ensures.value in (
      (refl, λ item. ap (λ n. reverse (slice_set items (n - 1) item)) count ∙ reverse-set_last items some item ∙ ap (λ list. item ∷ drop 1 list) seen),
      record { writes_back = tt; value = ap (λ list. slice_get list 0) (sym seen) ∙ top-reverse items some _ value },
    )
