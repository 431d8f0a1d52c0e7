-- What holds of each identifier's objects holds of each fragment's.
use Rattle.std.proofs.Common.{ℕ, ◌<◌, not, List, [], ◌∷◌, ◌++◌, length, fold}
use Rattle.std.specs.Prelude.{All}
use Rattle.std.specs.List.{filter, concat}
use Rattle.std.proofs.lemmas.List.Elements.{All-nil, All-head, All-tail, All-append, All-filter, All-push}
use Rattle.global_layout.specs.declared.ids.IdMembers.{IdMembers}
use Rattle.global_layout.specs.declared.ids.Shape.{Shape}
use Rattle.global_layout.specs.Fragments.{id_order, holds_any, is_held, touched, untouched, unheld, with_id, objects_at, fragments_of, no_id}
use Rattle.global_layout.specs.Layout.{IsId}
use Rattle.global_layout.proofs.FragmentLemmas.{order-within}

all_concat : (P : ℕ → Type 0) (fragments : List (List ℕ)) → All (All P) fragments → All P (concat fragments)
all_concat P [] all = All-nil P
all_concat P (fragment ∷ more) all =
    All-append P fragment (concat more) (All-head (All P) fragment more all) (all_concat P more (All-tail (All P) fragment more all))

pub all-with : (P : ℕ → Type 0) (objects : List ℕ) (fragments : List (List ℕ)) → All P objects → All (All P) fragments → All (All P) (with_id objects fragments)
all-with P objects fragments new all =
    All-push (All P) (untouched objects fragments) (touched objects fragments ++ unheld objects fragments)
    (All-filter (λ fragment. not (holds_any objects fragment)) (All P) fragments all)
    (All-append P (touched objects fragments) (unheld objects fragments)
    (all_concat P (filter (holds_any objects) fragments) (All-filter (holds_any objects) (All P) fragments all))
    (All-filter (λ object. not (is_held fragments object)) P objects new))

all_in : (P : ℕ → Type 0) (ids : List IdMembers) (fragments : List (List ℕ)) (order : List (ℕ × ℕ)) → All (λ (id : IdMembers). All P id.members) ids
    → All (λ pair. pair.1 < length ids) order → All (All P) fragments
    → All (All P) (fold (λ fs pair. with_id (objects_at ids pair.1) fs) fragments order)
all_in P ids fragments [] each within all = all
all_in P ids fragments (pair ∷ order) each within all =
    all_in P ids (with_id (objects_at ids pair.1) fragments) order each (All-tail (λ p. p.1 < length ids) pair order within)
    (all-with P (objects_at ids pair.1) fragments (each pair.1 no_id (All-head (λ p. p.1 < length ids) pair order within)) all)

pub fragments-each : (P : ℕ → Type 0) (ids : List IdMembers) → All (λ (id : IdMembers). All P id.members) ids → All (All P) (fragments_of ids)
fragments-each P ids each = all_in P ids [] (id_order ids) each (order-within ids) (All-nil (All P))

pub fragments-within : (ids : List IdMembers) (shapes : List Shape) → All (IsId shapes) ids → All (All (λ object. object < length shapes)) (fragments_of ids)
fragments-within ids shapes all = fragments-each (λ object. object < length shapes) ids (λ k d within. (all k d within).within)
