-- Steps of the fragments.
use Rattle.std.proofs.Common.{◌≡◌, ℕ, ◌+◌, ◌<◌, ◌≤◌, List, [], ◌∷◌, ◌++◌, length, get_or, take, sym, ap, ◌∙◌, arith, add-zero}
use Rattle.std.specs.Prelude.{All}
use Rattle.std.proofs.lemmas.List.{take_more, length-take, get_or_default}
use Rattle.std.proofs.lemmas.List.Sums.{fold_more}
use Rattle.std.proofs.lemmas.List.Elements.{All-nil, All-cons}
use Rattle.global_layout.specs.declared.ids.IdMembers.{IdMembers}
use Rattle.global_layout.specs.Fragments.{sizes_from, id_order, with_id, objects_at, fragments_in, no_id}
use Rattle.global_layout.proofs.OrderedLemmas.{all-ordered}

append_size : (number : ℕ) (ids : List IdMembers) (id : IdMembers) → sizes_from number (ids ++ id ∷ []) ≡ sizes_from number ids ++ (length id.members, number + length ids) ∷ []
append_size number [] id = ap (λ n. (length id.members, n) ∷ []) (sym (add-zero number))
append_size number (one ∷ ids) id =
    ap (λ pairs. (length one.members, number) ∷ pairs)
    (append_size (number + 1) ids id ∙ ap (λ n. sizes_from (number + 1) ids ++ (length id.members, n) ∷ []) (omega arith))

pub sizes-more : (ids : List IdMembers) (k : ℕ) (id : IdMembers) → k < length ids → id ≡ get_or ids k id
    → sizes_from 0 (take (k + 1) ids) ≡ sizes_from 0 (take k ids) ++ (length id.members, k) ∷ []
sizes-more ids k id within is =
    ap (sizes_from 0) (take_more ids k id within ∙ ap (λ s. take k ids ++ s ∷ []) (sym is)) ∙ append_size 0 (take k ids) id
    ∙ ap (λ n. sizes_from 0 (take k ids) ++ (length id.members, n) ∷ []) (taken ids k within) where
      taken : (xs : List IdMembers) (n : ℕ) → n < length xs → 0 + length (take n xs) ≡ n
      taken xs n within = grind (arith, length-take)

sizes_within : (number end : ℕ) (ids : List IdMembers) → number + length ids ≤ end → All (λ pair. pair.1 < end) (sizes_from number ids)
sizes_within number end [] fits = All-nil (λ pair. pair.1 < end)
sizes_within number end (id ∷ ids) fits =
    All-cons (λ pair. pair.1 < end) (length id.members, number) (sizes_from (number + 1) ids) (omega arith) (sizes_within (number + 1) end ids (omega arith))

pub order-within : (ids : List IdMembers) → All (λ pair. pair.1 < length ids) (id_order ids)
order-within ids = all-ordered (λ pair. pair.1 < length ids) (sizes_from 0 ids) (sizes_within 0 (length ids) ids (omega arith))

pub fragments-step : (ids : List IdMembers) (order : List (ℕ × ℕ)) (k : ℕ) (fragments more : List (List ℕ)) (d : IdMembers) → k < length order
    → (get_or order k (0, 0)).1 < length ids → fragments ≡ fragments_in ids (take k order)
    → more ≡ with_id (get_or ids (get_or order k (0, 0)).1 d).members fragments
    → more ≡ fragments_in ids (take (k + 1) order)
fragments-step ids order k fragments more d within inside so_far is =
    let pair : ℕ × ℕ = get_or order k (0, 0) in
    is ∙ ap (λ (id : IdMembers). with_id id.members fragments) (get_or_default ids pair.1 d no_id inside) ∙ ap (with_id (objects_at ids pair.1)) so_far
    ∙ sym (fold_more (λ fs p. with_id (objects_at ids p.1) fs) [] order k (0, 0) within)
