-- A loop over the units of a body: what it has found, and what the units from here on give.
use Rattle.std.proofs.Common.{◌≡◌, ℕ, ◌+◌, ◌<◌, ◌≤◌, List, [], ◌∷◌, ◌++◌, length, get_or, drop, Option, Some, None, refl, sym, ap, ◌∙◌, append_assoc, add-one, drop-cons, arith}
use Rattle.std.proofs.lemmas.Option.{slice_get-get_or}
use Rattle.std.proofs.lemmas.List.{append-nil, drop_all}
use Rattle.ltt_base.specs.declared.refusal.Placed.{Placed}
use Rattle.ir_values.specs.declared.units.Unit.{Unit}
use Rattle.ir_values.specs.declared.units.Form.{Form}
use Rattle.check_bodies.specs.declared.standing.Spot.{Spot}
use Rattle.check_bodies.specs.declared.standing.Standing.{Standing}
use Rattle.check_bodies.specs.declared.standing.Standing.TheVariants.{Outside, Inside}
use Rattle.check_bodies.specs.Standing.{after}
use Rattle.check_bodies.specs.Gathered.{gathered, behind_head, of_function}

abbrev Own : Type 0 → Type 0
Own X = ℕ → Spot → Form → List X

pub found_first : {X : Type 0} (first : Form → List X) (own : Own X) (us : List (Placed Unit)) (head : ℕ) (u : Placed Unit) (found : List X) (standing : Standing) →
    head < length us → found ≡ first (get_or us head u).value.form → standing ≡ after head Outside (get_or us head u).value.form →
    found ++ gathered own (head + 1) standing (drop (head + 1) us) ≡ of_function first own us head
unfolding of_function
found_first first own us head u found standing within given stands =
    let form : Form = (get_or us head u).value.form in
    ap (λ f. f ++ gathered own (head + 1) standing (drop (head + 1) us)) given
    ∙ ap (λ s. first form ++ gathered own (head + 1) s (drop (head + 1) us)) stands
    ∙ sym (ap (behind_head first own us head) (slice_get-get_or us head u within))

none_outside : {X : Type 0} (own : Own X) (at : ℕ) (us : List (Placed Unit)) → gathered own at Outside us ≡ []
unfolding gathered
none_outside own at [] = refl
none_outside own at (u ∷ us) = refl

none_behind : {X : Type 0} (own : Own X) (at : ℕ) (standing : Standing) (us : List (Placed Unit)) → us ≡ [] → gathered own at standing us ≡ []
unfolding gathered
none_behind own at standing [] none = refl
none_behind own at standing (u ∷ us) none = cc

pub found_closed : {X : Type 0} (own : Own X) (us : List (Placed Unit)) (at : ℕ) (found all : List X) (standing : Standing) → standing ≡ Outside →
    found ++ gathered own at standing (drop at us) ≡ all → found ≡ all
found_closed own us at found all standing closed whole =
    let none : gathered own at standing (drop at us) ≡ [] = ap (λ s. gathered own at s (drop at us)) closed ∙ none_outside own at (drop at us) in
    sym (append-nil found) ∙ ap (λ ds. found ++ ds) (sym none) ∙ whole

pub found_last : {X : Type 0} (own : Own X) (us : List (Placed Unit)) (at : ℕ) (found all : List X) (standing : Standing) → length us ≤ at →
    found ++ gathered own at standing (drop at us) ≡ all → found ≡ all
found_last own us at found all standing past whole =
    let none : gathered own at standing (drop at us) ≡ [] = none_behind own at standing (drop at us) (drop_all at us past) in
    sym (append-nil found) ∙ ap (λ ds. found ++ ds) (sym none) ∙ whole

step : {X : Type 0} (own : Own X) (us : List (Placed Unit)) (at : ℕ) (u : Placed Unit) (spot : Spot) (rest : List (Placed Unit)) → us ≡ u ∷ rest →
    gathered own at (Inside spot) us ≡ own at spot u.value.form ++ gathered own (at + 1) (after at (Inside spot) u.value.form) rest
unfolding gathered
step own us at u spot rest is = ap (gathered own at (Inside spot)) is

pub found_more : {X : Type 0} (own : Own X) (us : List (Placed Unit)) (at : ℕ) (u : Placed Unit) (spot : Spot) (found new all : List X) (standing next : Standing) →
    at < length us → standing ≡ Inside spot → new ≡ found ++ own at spot (get_or us at u).value.form →
    next ≡ after at (Inside spot) (get_or us at u).value.form →
    found ++ gathered own at standing (drop at us) ≡ all → new ++ gathered own (at + 1) next (drop (at + 1) us) ≡ all
found_more {X} own us at u spot found new all standing next within inside more goes whole =
    let form : Form = (get_or us at u).value.form in
    let first : drop at us ≡ get_or us at u ∷ drop (at + 1) us = rw add-one (drop-cons us at u within) in
    let one = step own (drop at us) at (get_or us at u) spot (drop (at + 1) us) first in
    let rest : List X = gathered own (at + 1) next (drop (at + 1) us) in
    let split : gathered own at standing (drop at us) ≡ own at spot form ++ rest =
    ap (λ s. gathered own at s (drop at us)) inside ∙ one ∙ ap (λ s. own at spot form ++ gathered own (at + 1) s (drop (at + 1) us)) (sym goes) in
    ap (λ ds. ds ++ rest) more ∙ append_assoc found (own at spot form) rest ∙ ap (λ ds. found ++ ds) (sym split) ∙ whole
