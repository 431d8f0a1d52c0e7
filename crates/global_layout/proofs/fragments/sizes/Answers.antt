use Rattle.std.proofs.Common.{◌∙◌, sym, ap, length, List, ℕ, ◌++◌, ◌∷◌, []}
use Rattle.global_layout.specs.declared.ids.IdMembers.{IdMembers}
use Rattle.global_layout.proofs.FragmentLemmas.{sizes-more}
use Rattle.global_layout.proofs.fragments.sizes.Goals as goal

pub loop-number-preserved : goal.loop-number-preserved
loop-number-preserved c =
    let k = c.loop-number.number in
    let id = c.index-ids-number.result in
    c.in-Ok.ensures.items
    ∙ ap (λ n. c.loop-number.pairs.items ++ (n, k) ∷ []) (c.len.ensures ∙ ap (λ (i : IdMembers). length i.members) (sym c.index-ids-number.is))
    ∙ ap (λ (pairs : List (ℕ × ℕ)). pairs ++ (length id.members, k) ∷ []) c.loop-number.invariant
    ∙ sym (sizes-more c.args.ids.now k id c.loop-number-test.true c.index-ids-number.is)
