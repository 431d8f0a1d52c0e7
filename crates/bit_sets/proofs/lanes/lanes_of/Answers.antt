use Rattle.std.proofs.Common.{◌≡◌, ◌∙◌, ◌<◌, sym, ap, subst, length, List, ℕ}
use Rattle.std.specs.Prelude.{All}
use Rattle.bit_sets.specs.declared.filling.Filling.{Filling}
use Rattle.bit_sets.specs.Lanes.{filled, filled_in}
use Rattle.bit_sets.proofs.LanesLemmas.{sizes-small, order-within, stood-within}
use Rattle.bit_sets.proofs.lanes.lanes_of.Goals as goal

pub array_order-requires : goal.array_order-requires
array_order-requires c = sizes-small c.args.sets.now c.requires

pub fill-requires-clause-small : goal.fill-requires-clause-small
fill-requires-clause-small c = sizes-small c.args.sets.now c.requires

pub fill-requires-clause-within : goal.fill-requires-clause-within
fill-requires-clause-within c =
    subst (λ (order : List (ℕ × ℕ)). All (λ pair. pair.1 < length c.args.sets.now) order) (sym (c.as_slice.ensures.value ∙ c.in_ok-order.ensures))
    (order-within c.args.sets.now)

pub filled_lanes-requires : goal.filled_lanes-requires
filled_lanes-requires c =
    let sets = c.args.sets.now in
    let placed = rw c.in-Some.is at c.in_ok-filling.ensures in
    let is : c.in-Some.filling ≡ filled sets = placed.0 ∙ ap (filled_in sets) (c.as_slice.ensures.value ∙ c.in_ok-order.ensures) in
    subst (λ (f : Filling). All (λ one. one.number < length sets) f.stood) (sym is) (stood-within sets)
