-- The objects of an identifier stand in one group.
use Rattle.std.proofs.Common.{◌≡◌, ℕ, ◌+◌, ◌<◌, ◌⊎◌, inl, inr, zero, suc, Bool, true, false, not, List, [], ◌∷◌, ◌++◌, length, get_or, fold, refl, sym, ap, subst, ◌∙◌, arith}
use Rattle.std.specs.Prelude.{All, Contains, ◌==◌, if◌then◌else◌}
use Rattle.std.specs.List.{filter, concat, list_any}
use Rattle.std.proofs.lemmas.List.Folds.{list_any-append, list_any_at}
use Rattle.std.proofs.lemmas.List.Elements.{Contains-append_left, Contains-push}
use Rattle.std.proofs.lemmas.Bool.{cases_Bool, or_cases, or_left, or_right, eqb-true, eq-eqb}
use Rattle.global_layout.specs.declared.ids.IdMembers.{IdMembers}
use Rattle.global_layout.specs.declared.ids.Shape.{Shape}
use Rattle.global_layout.specs.declared.groups.Group.{Group}
use Rattle.global_layout.specs.declared.placing.Placing.{Placing}
use Rattle.global_layout.specs.Ordered.{comes_before, put_among, ordered}
use Rattle.global_layout.specs.Fragments.{sizes_from, id_order, is_among, holds_any, is_held, touched, untouched, unheld, with_id, objects_at, fragments_of}
use Rattle.global_layout.specs.Layout.{is_table, fragment_more, variable_more, table_more, none_placed}
use Rattle.global_layout.specs.Laws.{ObjectsStandTogether}

-- Objects in lists.

pub among-contains : (objects : List ℕ) (x : ℕ) → is_among objects x ≡ true → Contains objects x
among-contains [] x is = cc
among-contains (y ∷ ys) x is = elim (or_cases (y == x) (is_among ys x) is) [
  | inl here ↦ (0, omega arith, eqb-true y x here)
  | inr later ↦ step (among-contains ys x later)
] where
  step : Contains ys x → Contains (y ∷ ys) x
  step (k, within, at) = (suc k, omega arith, at)

among_each : (objects : List ℕ) → All (λ x. is_among objects x ≡ true) objects
among_each objects k d within =
    list_any_at (λ y. y == get_or objects k d) objects k d within (eq-eqb (get_or objects k d) (get_or objects k d) refl)

-- an object in a list that passes a test
any_passes : (test : ℕ → Bool) (objects : List ℕ) (x : ℕ) → is_among objects x ≡ true → test x ≡ true → list_any test objects ≡ true
any_passes test [] x is passes = cc
any_passes test (y ∷ ys) x is passes = elim (or_cases (y == x) (is_among ys x) is) [
  | inl here ↦ or_left (test y) (list_any test ys) (ap test (eqb-true y x here) ∙ passes)
  | inr later ↦ or_right (test y) (list_any test ys) (any_passes test ys x later passes)
]

among_kept : (test : ℕ → Bool) (objects : List ℕ) (x : ℕ) → is_among objects x ≡ true → test x ≡ true → is_among (filter test objects) x ≡ true
among_kept test [] x is passes = is
among_kept test (y ∷ ys) x is passes = by_test (test y) refl (or_cases (y == x) (is_among ys x) is) (λ later. among_kept test ys x later passes) where
  by_test : (t : Bool) → test y ≡ t → ((y == x) ≡ true) ⊎ (is_among ys x ≡ true) → (is_among ys x ≡ true → is_among (filter test ys) x ≡ true)
      → is_among (if t then y ∷ filter test ys else filter test ys) x ≡ true
  by_test true at (inl here) rest = or_left (y == x) (is_among (filter test ys) x) here
  by_test true at (inr later) rest = or_right (y == x) (is_among (filter test ys) x) (rest later)
  by_test false at (inl here) rest = let h = sym at ∙ ap test (eqb-true y x here) ∙ passes in cc
  by_test false at (inr later) rest = rest later

-- a fragment that is kept
contains_kept : (test : List ℕ → Bool) (fragments : List (List ℕ)) (f : List ℕ) → Contains fragments f → test f ≡ true → Contains (filter test fragments) f
contains_kept test [] f (k, within, at) passes = absurd (omega arith)
contains_kept test (g ∷ more) f (zero, within, at) passes = subst (λ (t : Bool). Contains (if t then g ∷ filter test more else filter test more) f)
    (sym (ap test at ∙ passes)) (0, omega arith, at)
contains_kept test (g ∷ more) f (suc k, within, at) passes = by_test (test g) (contains_kept test more f (k, omega arith, at) passes) where
  by_test : (t : Bool) → Contains (filter test more) f → Contains (if t then g ∷ filter test more else filter test more) f
  by_test true (j, inside, here) = (suc j, omega arith, here)
  by_test false held = held

among_concat : (fragments : List (List ℕ)) (f : List ℕ) (x : ℕ) → Contains fragments f → is_among f x ≡ true → is_among (concat fragments) x ≡ true
among_concat [] f x (k, within, at) is = absurd (omega arith)
among_concat (g ∷ more) f x (zero, within, at) is =
    list_any-append (λ y. y == x) g (concat more) ∙ or_left (is_among g x) (is_among (concat more) x) (ap (λ h. is_among h x) at ∙ is)
among_concat (g ∷ more) f x (suc k, within, at) is =
    list_any-append (λ y. y == x) g (concat more) ∙ or_right (is_among g x) (is_among (concat more) x) (among_concat more f x (k, omega arith, at) is)

-- Steps.

-- a fragment holds all of the objects
abbrev IsWhole : List ℕ → List (List ℕ) → Type 0
IsWhole objects fragments = (f : List ℕ) × Contains fragments f × All (λ x. is_among f x ≡ true) objects

held_by : (fragments : List (List ℕ)) (x : ℕ) → is_held fragments x ≡ true → (f : List ℕ) × Contains fragments f × (is_among f x ≡ true)
held_by [] x is = cc
held_by (g ∷ more) x is = elim (or_cases (is_among g x) (is_held more x) is) [
  | inl here ↦ (g, (0, omega arith, refl), here)
  | inr later ↦ step (held_by more x later)
] where
  step : (f : List ℕ) × Contains more f × (is_among f x ≡ true) → (f : List ℕ) × Contains (g ∷ more) f × (is_among f x ≡ true)
  step (f, (k, within, at), is) = (f, (suc k, omega arith, at), is)

in_touched : (objects : List ℕ) (fragments : List (List ℕ)) (f : List ℕ) (x : ℕ) → Contains fragments f → holds_any objects f ≡ true → is_among f x ≡ true
    → is_among (touched objects fragments ++ unheld objects fragments) x ≡ true
in_touched objects fragments f x held any is =
    list_any-append (λ y. y == x) (touched objects fragments) (unheld objects fragments)
    ∙ or_left (is_among (touched objects fragments) x) (is_among (unheld objects fragments) x)
    (among_concat (filter (holds_any objects) fragments) f x (contains_kept (holds_any objects) fragments f held any) is)

new_one : (objects : List ℕ) (fragments : List (List ℕ)) (x : ℕ) → is_among objects x ≡ true → is_among (touched objects fragments ++ unheld objects fragments) x ≡ true
new_one objects fragments x is = elim (cases_Bool (is_held fragments x)) [
  | inl held ↦
      let (f, inside, at) = held_by fragments x held in
      in_touched objects fragments f x inside (any_passes (λ y. is_among objects y) f x at is) at
  | inr free ↦
      list_any-append (λ y. y == x) (touched objects fragments) (unheld objects fragments)
      ∙ or_right (is_among (touched objects fragments) x) (is_among (unheld objects fragments) x)
      (among_kept (λ object. not (is_held fragments object)) objects x is (ap not free))
]

whole_new : (objects : List ℕ) (fragments : List (List ℕ)) → IsWhole objects (with_id objects fragments)
whole_new objects fragments = (
  touched objects fragments ++ unheld objects fragments,
  Contains-push (untouched objects fragments) (touched objects fragments ++ unheld objects fragments),
  λ k d within. new_one objects fragments (get_or objects k d) (among_each objects k d within),
)

whole_stays : (some objects : List ℕ) (fragments : List (List ℕ)) → IsWhole some fragments → IsWhole some (with_id objects fragments)
whole_stays some objects fragments (f, held, all) = elim (cases_Bool (holds_any objects f)) [
  | inl any ↦ (
    touched objects fragments ++ unheld objects fragments,
    Contains-push (untouched objects fragments) (touched objects fragments ++ unheld objects fragments),
    λ k d within. in_touched objects fragments f (get_or some k d) held any (all k d within),
  )
  | inr free ↦ (
    f,
    Contains-append_left (untouched objects fragments) ((touched objects fragments ++ unheld objects fragments) ∷ []) f
        (contains_kept (λ g. not (holds_any objects g)) fragments f held (ap not free)),
    all,
  )
]

-- Each identifier is taken.

Has : ℕ → List (ℕ × ℕ) → Type 0
Has number [] = ⊥
Has number (pair ∷ more) = (pair.1 ≡ number) ⊎ Has number more

has_size : (rest : List IdMembers) (first i : ℕ) → i < length rest → Has (first + i) (sizes_from first rest)
unfolding Has
has_size [] first i within = absurd (omega arith)
has_size (id ∷ rest) first zero within = inl (none_more first) where
  none_more : (n : ℕ) → n ≡ n + 0
  none_more n = omega arith
has_size (id ∷ rest) first (suc i) within = inr (subst (λ n. Has n (sizes_from (first + 1) rest)) there (has_size rest (first + 1) i (omega arith))) where
  there : first + 1 + i ≡ first + suc i
  there = omega arith

has_put : (number : ℕ) (pair : ℕ × ℕ) (pairs : List (ℕ × ℕ)) → (pair.1 ≡ number) ⊎ Has number pairs → Has number (put_among pair pairs)
unfolding Has
has_put number pair [] has = has
has_put number pair (other ∷ more) has =
    by_test (comes_before other pair) (λ h. has_put number pair more h) has where
      by_test : (t : Bool) → ((pair.1 ≡ number) ⊎ Has number more → Has number (put_among pair more)) → (pair.1 ≡ number) ⊎ ((other.1 ≡ number) ⊎ Has number more)
          → Has number (if t then other ∷ put_among pair more else pair ∷ other ∷ more)
      by_test true rest (inl here) = inr (rest (inl here))
      by_test true rest (inr (inl here)) = inl here
      by_test true rest (inr (inr later)) = inr (rest (inr later))
      by_test false rest h = h

has_ordered : (number : ℕ) (pairs : List (ℕ × ℕ)) → Has number pairs → Has number (ordered pairs)
unfolding Has
has_ordered number [] has = has
has_ordered number (pair ∷ more) (inl here) = has_put number pair (ordered more) (inl here)
has_ordered number (pair ∷ more) (inr later) = has_put number pair (ordered more) (inr (has_ordered number more later))

whole_each : (ids : List IdMembers) (number : ℕ) (fragments : List (List ℕ)) (order : List (ℕ × ℕ)) → IsWhole (objects_at ids number) fragments ⊎ Has number order
    → IsWhole (objects_at ids number) (fold (λ fs pair. with_id (objects_at ids pair.1) fs) fragments order)
unfolding Has
whole_each ids number fragments [] (inl whole) = whole
whole_each ids number fragments [] (inr none) = absurd none
whole_each ids number fragments (pair ∷ order) (inl whole) =
    whole_each ids number (with_id (objects_at ids pair.1) fragments) order (inl (whole_stays (objects_at ids number) (objects_at ids pair.1) fragments whole))
whole_each ids number fragments (pair ∷ order) (inr (inl here)) =
    whole_each ids number (with_id (objects_at ids pair.1) fragments) order
    (inl (subst (λ n. IsWhole (objects_at ids n) (with_id (objects_at ids pair.1) fragments)) here (whole_new (objects_at ids pair.1) fragments)))
whole_each ids number fragments (pair ∷ order) (inr (inr later)) =
    whole_each ids number (with_id (objects_at ids pair.1) fragments) order (inr later)

-- Each fragment is a group.

IsGrouped : List Group → List ℕ → Type 0
IsGrouped groups f = (group : Group) × Contains groups group × (group.members ≡ f)

groups_keep : (shapes : List Shape) (placing : Placing) (objects f : List ℕ) → IsGrouped placing.groups f → IsGrouped (fragment_more shapes placing objects).groups f
unfolding IsGrouped
groups_keep shapes placing objects f (group, held, is) = by_sort (is_table shapes objects) where
  by_sort : (t : Bool) → IsGrouped (if t then table_more placing objects else variable_more shapes placing objects).groups f
  by_sort true = (group, Contains-append_left placing.groups _ group held, is)
  by_sort false = (group, Contains-append_left placing.groups _ group held, is)

groups_new : (shapes : List Shape) (placing : Placing) (objects : List ℕ) → IsGrouped (fragment_more shapes placing objects).groups objects
unfolding IsGrouped
groups_new shapes placing objects = by_sort (is_table shapes objects) where
  by_sort : (t : Bool) → IsGrouped (if t then table_more placing objects else variable_more shapes placing objects).groups objects
  by_sort true = (_, Contains-push placing.groups _, refl)
  by_sort false = (_, Contains-push placing.groups _, refl)

groups_each : (shapes : List Shape) (placing : Placing) (fragments : List (List ℕ)) (f : List ℕ) → IsGrouped placing.groups f ⊎ Contains fragments f
    → IsGrouped (fold (fragment_more shapes) placing fragments).groups f
groups_each shapes placing [] f (inl held) = held
groups_each shapes placing [] f (inr (k, within, at)) = absurd (omega arith)
groups_each shapes placing (objects ∷ more) f (inl held) =
    groups_each shapes (fragment_more shapes placing objects) more f (inl (groups_keep shapes placing objects f held))
groups_each shapes placing (objects ∷ more) f (inr (zero, within, at)) =
    groups_each shapes (fragment_more shapes placing objects) more f
    (inl (subst (IsGrouped (fragment_more shapes placing objects).groups) at (groups_new shapes placing objects)))
groups_each shapes placing (objects ∷ more) f (inr (suc k, within, at)) =
    groups_each shapes (fragment_more shapes placing objects) more f (inr (k, omega arith, at))

pub together : ObjectsStandTogether
unfolding IsGrouped
together ids shapes number within =
    let has : Has (0 + number) (id_order ids) = has_ordered (0 + number) (sizes_from 0 ids) (has_size ids 0 number within) in
    let has' : Has number (id_order ids) = subst (λ n. Has n (id_order ids)) (none_before number) has in
    let (f, held, all) = whole_each ids number [] (id_order ids) (inr has') in
    let (group, inside, is) = groups_each shapes (none_placed (length shapes)) (fragments_of ids) f (inr held) in (
      group,
      inside,
      λ k d below. subst (λ (g : List ℕ). Contains g (get_or (objects_at ids number) k d)) (sym is)
          (among-contains f (get_or (objects_at ids number) k d) (all k d below)),
    ) where
      none_before : (n : ℕ) → 0 + n ≡ n
      none_before n = omega arith
