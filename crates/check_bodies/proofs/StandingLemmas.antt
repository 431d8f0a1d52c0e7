-- Where the next unit stands.
use Rattle.std.proofs.Common.{◌≡◌, ℕ, ◌+◌, ◌<◌, List, [], ◌∷◌, ◌++◌, length, get_or, take, refl, sym, ap, ◌∙◌, arith}
use Rattle.std.proofs.lemmas.List.{take_more, length-take-le}
use Rattle.ltt_base.specs.declared.refusal.Placed.{Placed}
use Rattle.ir_values.specs.declared.units.Unit.{Unit}
use Rattle.check_bodies.specs.declared.standing.Standing.{Standing}
use Rattle.check_bodies.specs.declared.standing.Standing.TheVariants.{Outside}
use Rattle.check_bodies.specs.Standing.{after, behind, standing}

behind_more : (at : ℕ) (from : Standing) (us : List (Placed Unit)) (u : Placed Unit) →
    behind at from (us ++ u ∷ []) ≡ after (at + length us) (behind at from us) u.value.form
unfolding behind
behind_more at from [] u = let same : at ≡ at + 0 = omega arith in ap (λ n. after n from u.value.form) same
behind_more at from (v ∷ us) u =
    let same : at + 1 + length us ≡ at + length (v ∷ us) = omega arith in
    behind_more (at + 1) (after at from v.value.form) us u
    ∙ ap (λ n. after n (behind (at + 1) (after at from v.value.form) us) u.value.form) same

-- the first unit stands outside
pub standing_first : (us : List (Placed Unit)) → standing us 0 ≡ Outside
unfolding standing behind
standing_first us = refl

-- where the unit behind the one at a place stands
pub standing_next : (us : List (Placed Unit)) (at : ℕ) (d : Placed Unit) → at < length us →
    standing us (at + 1) ≡ after at (standing us at) (get_or us at d).value.form
unfolding standing
standing_next us at d within =
    let long : 0 + length (take at us) ≡ at = omega (arith, length-take-le at us) in
    ap (behind 0 Outside) (take_more us at d within) ∙ behind_more 0 Outside (take at us) (get_or us at d)
    ∙ ap (λ n. after n (behind 0 Outside (take at us)) (get_or us at d).value.form) long
