use Rattle.std.proofs.Common.{◌<◌, ◌∙◌, sym, subst, length, List, ℕ}
use Rattle.std.specs.Prelude.{All}
use Rattle.global_layout.proofs.FragmentLemmas.{order-within}
use Rattle.global_layout.proofs.fragments.fragments_of.Goals as goal

pub fragments_in-requires : goal.fragments_in-requires
fragments_in-requires c =
    subst (λ (order : List (ℕ × ℕ)). All (λ pair. pair.1 < length c.args.ids.now) order) (sym (c.as_slice.ensures.value ∙ c.in_ok-order.ensures))
    (order-within c.args.ids.now)
