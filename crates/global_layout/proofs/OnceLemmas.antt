-- No object stands in two fragments.
use Rattle.std.proofs.Common.{◌≡◌, ◌≢◌, ℕ, ◌+◌, ◌<◌, ◌≤◌, ◌⊎◌, inl, inr, suc, Bool, true, false, not, List, [], ◌∷◌, ◌++◌, length, get_or, fold, refl, sym, ap, subst, ◌∙◌, arith}
use Rattle.std.specs.Prelude.{All, ◌==◌, if◌then◌else◌}
use Rattle.std.specs.List.{filter, concat}
use Rattle.std.specs.List.Sorted.{IsStrictlyIncreasing}
use Rattle.std.proofs.lemmas.List.Folds.{concat-append}
use Rattle.std.proofs.lemmas.List.Elements.{All-head, All-tail}
use Rattle.std.proofs.lemmas.Bool.{cases_Bool, cases_eq, ne_eqb, or_parts, true≢false}
use Rattle.global_layout.specs.declared.ids.IdMembers.{IdMembers}
use Rattle.global_layout.specs.declared.ids.Shape.{Shape}
use Rattle.global_layout.specs.Fragments.{id_order, is_among, holds_any, is_held, touched, untouched, unheld, with_id, objects_at, fragments_of, no_id}
use Rattle.global_layout.specs.Layout.{IsId}
use Rattle.global_layout.proofs.FragmentLemmas.{order-within}

-- how often an object stands in a list
unfoldable pub count : ℕ → List ℕ → ℕ
count x [] = 0
count x (y ∷ ys) = (if y == x then 1 else 0) + count x ys

pub count-append : (x : ℕ) (ys zs : List ℕ) → count x (ys ++ zs) ≡ count x ys + count x zs
unfolding count
count-append x [] zs = omega arith
count-append x (y ∷ ys) zs = let rest = count-append x ys zs in omega (arith, rest)

count_split : (x : ℕ) (p : List ℕ → Bool) (fragments : List (List ℕ))
    → count x (concat (filter p fragments)) + count x (concat (filter (λ f. not (p f)) fragments)) ≡ count x (concat fragments)
unfolding count
count_split x p [] = refl
count_split x p (f ∷ more) = by_test (p f) (count_split x p more) where
  by_test : (t : Bool) → count x (concat (filter p more)) + count x (concat (filter (λ g. not (p g)) more)) ≡ count x (concat more)
      → count x (concat (if t then f ∷ filter p more else filter p more)) + count x (concat (if not t then f ∷ filter (λ g. not (p g)) more else filter (λ g. not (p g)) more))
      ≡ count x (concat (f ∷ more))
  by_test true rest =
      let here = count-append x f (concat (filter p more)) in
      let all = count-append x f (concat more) in
      omega (arith, rest, here, all)
  by_test false rest =
      let here = count-append x f (concat (filter (λ g. not (p g)) more)) in
      let all = count-append x f (concat more) in
      omega (arith, rest, here, all)

count_among : (x : ℕ) (ys : List ℕ) → is_among ys x ≡ false → count x ys ≡ 0
unfolding count
count_among x [] is = refl
count_among x (y ∷ ys) is =
    let parts = or_parts (y == x) (is_among ys x) is in
    ap (λ (t : Bool). (if t then 1 else 0) + count x ys) parts.0 ∙ ap (λ n. 0 + n) (count_among x ys parts.1)

count_held : (x : ℕ) (fragments : List (List ℕ)) → is_held fragments x ≡ false → count x (concat fragments) ≡ 0
unfolding count
count_held x [] is = refl
count_held x (f ∷ more) is =
    let parts = or_parts (is_among f x) (is_held more x) is in
    let here = count_among x f parts.0 in
    let rest = count_held x more parts.1 in
    let all = count-append x f (concat more) in
    omega (arith, here, rest, all)

count_kept : (x : ℕ) (p : ℕ → Bool) (ys : List ℕ) → count x (filter p ys) ≤ count x ys
unfolding count
count_kept x p [] = omega arith
count_kept x p (y ∷ ys) = by_test (p y) (count_kept x p ys) where
  by_test : (t : Bool) → count x (filter p ys) ≤ count x ys → count x (if t then y ∷ filter p ys else filter p ys) ≤ count x (y ∷ ys)
  by_test true rest = omega (arith, rest)
  by_test false rest = omega (arith, rest)

count_dropped : (x : ℕ) (p : ℕ → Bool) (ys : List ℕ) → p x ≡ false → count x (filter p ys) ≡ 0
unfolding count
count_dropped x p [] is = refl
count_dropped x p (y ∷ ys) is = by_test (p y) refl (cases_eq y x) (count_dropped x p ys is) where
  by_test : (t : Bool) → p y ≡ t → (y ≡ x) ⊎ (y ≢ x) → count x (filter p ys) ≡ 0 → count x (if t then y ∷ filter p ys else filter p ys) ≡ 0
  by_test false at where_is rest = rest
  by_test true at (inl same) rest = absurd (true≢false (sym at ∙ ap p same ∙ is))
  by_test true at (inr other) rest = ap (λ (t : Bool). (if t then 1 else 0) + count x (filter p ys)) (ne_eqb y x other) ∙ ap (λ n. 0 + n) rest

rising_tail : (y : ℕ) (ys : List ℕ) → IsStrictlyIncreasing (y ∷ ys) → IsStrictlyIncreasing ys
rising_tail y ys rising k within =
    let next : suc k + 1 ≡ suc (k + 1) = omega arith in
    subst (λ n. get_or ys k 0 < get_or (y ∷ ys) n 0) next (rising (suc k) (omega arith))

count_above : (x : ℕ) (ys : List ℕ) → IsStrictlyIncreasing ys → (0 < length ys → x < get_or ys 0 0) → count x ys ≡ 0
unfolding count
count_above x [] rising first = refl
count_above x (y ∷ ys) rising first =
    let less : x < y = first (omega arith) in
    ap (λ (t : Bool). (if t then 1 else 0) + count x ys) (ne_eqb y x (λ same. omega (arith, same, less)))
    ∙ ap (λ n. 0 + n) (count_above x ys (rising_tail y ys rising) (λ some. let step : y < get_or ys 0 0 = rising 0 (omega arith) in omega (arith, less, step)))

pub rising-once : (x : ℕ) (ys : List ℕ) → IsStrictlyIncreasing ys → count x ys ≤ 1
unfolding count
rising-once x [] rising = omega arith
rising-once x (y ∷ ys) rising = elim (cases_eq y x) [
  | inl same ↦
      let none : count y ys ≡ 0 = count_above y ys (rising_tail y ys rising) (λ some. rising 0 (omega arith)) in
      let none' : count x ys ≡ 0 = ap (λ z. count z ys) (sym same) ∙ none in
      let flag = flag_small (y == x) in
      omega (arith, none', flag)
  | inr other ↦
      let rest = rising-once x ys (rising_tail y ys rising) in
      subst (λ (t : Bool). (if t then 1 else 0) + count x ys ≤ 1) (sym (ne_eqb y x other)) (omega (arith, rest))
] where
  flag_small : (t : Bool) → (if t then 1 else 0) ≤ 1
  flag_small true = omega arith
  flag_small false = omega arith

once_with : (x : ℕ) (objects : List ℕ) (fragments : List (List ℕ)) → count x objects ≤ 1 → count x (concat fragments) ≤ 1
    → count x (concat (with_id objects fragments)) ≤ 1
unfolding count
once_with x objects fragments new all =
    let joined : List ℕ = touched objects fragments ++ unheld objects fragments in
    let whole : concat (with_id objects fragments) ≡ concat (untouched objects fragments) ++ concat (joined ∷ []) = concat-append (untouched objects fragments) (joined ∷ []) in
    let first : count x (concat (with_id objects fragments)) ≡ count x (concat (untouched objects fragments)) + count x (concat (joined ∷ [])) =
    ap (count x) whole ∙ count-append x (concat (untouched objects fragments)) (concat (joined ∷ [])) in
    let second : count x (concat (joined ∷ [])) ≡ count x joined + 0 = count-append x joined [] in
    let third : count x joined ≡ count x (touched objects fragments) + count x (unheld objects fragments) = count-append x (touched objects fragments) (unheld objects fragments) in
    let split = count_split x (holds_any objects) fragments in
    elim (cases_Bool (is_held fragments x)) [
      | inl held ↦
          let none = count_dropped x (λ object. not (is_held fragments object)) objects (ap not held) in
          omega (arith, first, second, third, split, none, all)
      | inr free ↦
          let none = count_held x fragments free in
          let few = count_kept x (λ object. not (is_held fragments object)) objects in
          omega (arith, first, second, third, split, none, few, new)
    ]

once_in : (x : ℕ) (ids : List IdMembers) (fragments : List (List ℕ)) (order : List (ℕ × ℕ)) → All (λ (id : IdMembers). count x id.members ≤ 1) ids
    → All (λ pair. pair.1 < length ids) order → count x (concat fragments) ≤ 1
    → count x (concat (fold (λ fs pair. with_id (objects_at ids pair.1) fs) fragments order)) ≤ 1
once_in x ids fragments [] each within once = once
once_in x ids fragments (pair ∷ order) each within once =
    once_in x ids (with_id (objects_at ids pair.1) fragments) order each (All-tail (λ p. p.1 < length ids) pair order within)
    (once_with x (objects_at ids pair.1) fragments (each pair.1 no_id (All-head (λ p. p.1 < length ids) pair order within)) once)

pub fragments-once : (ids : List IdMembers) (shapes : List Shape) (x : ℕ) → All (IsId shapes) ids → count x (concat (fragments_of ids)) ≤ 1
unfolding count
fragments-once ids shapes x all =
    once_in x ids [] (id_order ids) (λ k d within. rising-once x (get_or ids k d).members (all k d within).rising) (order-within ids) (omega arith)
