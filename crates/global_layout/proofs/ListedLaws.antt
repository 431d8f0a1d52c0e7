-- Exactly the objects that an identifier lists have homes.
use Rattle.std.proofs.Common.{◌≡◌, ℕ, ◌+◌, ◌≤◌, inl, inr, zero, suc, Bool, true, false, List, [], ◌∷◌, ◌++◌, length, get_or, fold, replicate, refl, sym, ap, subst, ◌∙◌, arith, Option, Some, None}
use Rattle.std.specs.Prelude.{All, Contains, IsSome, ◌==◌, if◌then◌else◌}
use Rattle.std.specs.List.{concat, list_any}
use Rattle.std.proofs.lemmas.List.{get_or-replicate, get_or_past, get_or_default, length-replicate}
use Rattle.std.specs.Option.{is_some}
use Rattle.std.proofs.lemmas.List.Folds.{list_any_at}
use Rattle.std.proofs.lemmas.List.Elements.{All-head, All-tail}
use Rattle.std.proofs.lemmas.Bool.{cases_Bool, cases_lt, or_cases, true≢false}
use Rattle.std.proofs.lemmas.Option.{none-some}
use Rattle.global_layout.specs.declared.ids.IdMembers.{IdMembers}
use Rattle.global_layout.specs.declared.ids.Shape.{Shape}
use Rattle.global_layout.specs.declared.groups.Home.{Home}
use Rattle.global_layout.specs.declared.groups.Group.{Group}
use Rattle.global_layout.specs.declared.placing.Placing.{Placing}
use Rattle.global_layout.specs.Slots.{end_behind}
use Rattle.global_layout.specs.Fragments.{is_among, fragments_of, objects_at, no_id}
use Rattle.global_layout.specs.Layout.{IsId, shape_at, is_table, fragment_more, variable_more, table_more, none_placed, layout_of, groups_of, home_of}
use Rattle.global_layout.specs.Laws.{InTable, InVariable, InGroup, AreHome, IsListed, ListedHaveHomes}
use Rattle.global_layout.proofs.OnceLemmas.{count, count-append}
use Rattle.global_layout.proofs.WithinLemmas.{fragments-each}
use Rattle.global_layout.proofs.HomeLaws.{members_of, members-more, slots-keep, entries-keep, law-homes}
use Rattle.global_layout.proofs.TogetherLaws.{among-contains, together}

-- Objects that no group holds have no home.

group_keeps : (shapes : List Shape) (placing : Placing) (objects : List ℕ) (x : ℕ) → count x objects ≡ 0
    → get_or (fragment_more shapes placing objects).homes x None ≡ get_or placing.homes x None
group_keeps shapes placing objects x none = by_sort (is_table shapes objects) where
  by_sort : (t : Bool) → get_or (if t then table_more placing objects else variable_more shapes placing objects).homes x None ≡ get_or placing.homes x None
  by_sort true = entries-keep placing.tables (record { length = 0; align = 8; homes = placing.homes }) objects x none
  by_sort false = slots-keep shapes placing.variables (record { length = 0; align = 1; homes = placing.homes }) objects x none

homes_keep : (shapes : List Shape) (placing : Placing) (fragments : List (List ℕ)) (x : ℕ) → count x (concat fragments) ≡ 0
    → get_or (fold (fragment_more shapes) placing fragments).homes x None ≡ get_or placing.homes x None
homes_keep shapes placing [] x none = refl
homes_keep shapes placing (objects ∷ more) x none =
    let both : count x (objects ++ concat more) ≡ count x objects + count x (concat more) = count-append x objects (concat more) in
    let none' : count x (objects ++ concat more) ≡ 0 = none in
    homes_keep shapes (fragment_more shapes placing objects) more x (omega (arith, both, none'))
    ∙ group_keeps shapes placing objects x (omega (arith, both, none'))

no_home : (none : Option Home) (n x : ℕ) → get_or (replicate n none) x none ≡ none
no_home none n x = elim (cases_lt x n) [
  | inl within ↦ get_or-replicate n x none none within
  | inr past ↦ get_or_past (replicate n none) x none (subst (λ m. m ≤ x) (sym (length-replicate n none)) past)
]

unplaced_none : (ids : List IdMembers) (shapes : List Shape) (x : ℕ) → count x (concat (fragments_of ids)) ≡ 0
    → home_of (layout_of ids shapes) x ≡ None
unplaced_none ids shapes x none = homes_keep shapes (none_placed (length shapes)) (fragments_of ids) x none ∙ no_home None (length shapes) x

members_each : (x : ℕ) (shapes : List Shape) (placing : Placing) (fragments : List (List ℕ))
    → count x (members_of (fold (fragment_more shapes) placing fragments).groups) ≡ count x (members_of placing.groups) + count x (concat fragments)
unfolding count
members_each x shapes placing [] = omega arith
members_each x shapes placing (objects ∷ more) =
    let rest = members_each x shapes (fragment_more shapes placing objects) more in
    let here = members-more x shapes placing objects in
    let both = count-append x objects (concat more) in
    omega (arith, rest, here, both)

none_counted : (x : ℕ) → count x (members_of []) ≡ 0
unfolding members_of count
none_counted x = refl

-- an object with a home is a member of a group
pub placed-counted : (ids : List IdMembers) (shapes : List Shape) (x : ℕ) (home : Home) → home_of (layout_of ids shapes) x ≡ Some home
    → 1 ≤ count x (members_of (groups_of (layout_of ids shapes)))
placed-counted ids shapes x home is = elim (cases_lt 0 (count x (concat (fragments_of ids)))) [
  | inl some ↦
      let each = members_each x shapes (none_placed (length shapes)) (fragments_of ids) in
      omega (arith, each, some)
  | inr none ↦ absurd (none-some home (sym (unplaced_none ids shapes x (omega (arith, none))) ∙ is))
]

-- Objects of no list are in no fragment.

listed : (ids : List IdMembers) (x : ℕ) → list_any (λ (id : IdMembers). is_among id.members x) ids ≡ true → IsListed ids x
listed [] x is = cc
listed (id ∷ more) x is = elim (or_cases (is_among id.members x) (list_any (λ (i : IdMembers). is_among i.members x) more) is) [
  | inl here ↦ (id, (0, omega arith, refl), among-contains id.members x here)
  | inr later ↦ step (listed more x later)
] where
  step : IsListed more x → IsListed (id ∷ more) x
  step (i, (k, within, at), held) = (i, (suc k, omega arith, at), held)

none_in : (x : ℕ) (ys : List ℕ) → is_among ys x ≡ false → All (λ y. (y == x) ≡ false) ys
none_in x ys is k d within = elim (cases_Bool (get_or ys k d == x)) [
  | inl same ↦ absurd (true≢false (sym (list_any_at (λ y. y == x) ys k d within same) ∙ is))
  | inr other ↦ other
]

unlisted_each : (ids : List IdMembers) (x : ℕ) → list_any (λ (id : IdMembers). is_among id.members x) ids ≡ false
    → All (λ (id : IdMembers). All (λ y. (y == x) ≡ false) id.members) ids
unlisted_each ids x is k d within = elim (cases_Bool (is_among (get_or ids k d).members x)) [
  | inl held ↦ absurd (true≢false (sym (list_any_at (λ (id : IdMembers). is_among id.members x) ids k d within held) ∙ is))
  | inr free ↦ none_in x (get_or ids k d).members free
]

zero_in : (x : ℕ) (ys : List ℕ) → All (λ y. (y == x) ≡ false) ys → count x ys ≡ 0
unfolding count
zero_in x [] all = refl
zero_in x (y ∷ ys) all =
    ap (λ (t : Bool). (if t then 1 else 0) + count x ys) (All-head (λ z. (z == x) ≡ false) y ys all)
    ∙ ap (λ n. 0 + n) (zero_in x ys (All-tail (λ z. (z == x) ≡ false) y ys all))

zero_each : (x : ℕ) (fragments : List (List ℕ)) → All (All (λ y. (y == x) ≡ false)) fragments → count x (concat fragments) ≡ 0
unfolding count
zero_each x [] all = refl
zero_each x (objects ∷ more) all =
    let here = zero_in x objects (All-head (All (λ y. (y == x) ≡ false)) objects more all) in
    let rest = zero_each x more (All-tail (All (λ y. (y == x) ≡ false)) objects more all) in
    let both = count-append x objects (concat more) in
    omega (arith, here, rest, both)

home_listed : (ids : List IdMembers) (shapes : List Shape) (x : ℕ) → IsSome (home_of (layout_of ids shapes) x) → IsListed ids x
home_listed ids shapes x some = elim (cases_Bool (list_any (λ (id : IdMembers). is_among id.members x) ids)) [
  | inl is ↦ listed ids x is
  | inr free ↦
      let none = unplaced_none ids shapes x (zero_each x (fragments_of ids) (fragments-each (λ y. (y == x) ≡ false) ids (unlisted_each ids x free))) in
      absurd (true≢false (sym some ∙ ap is_some none))
]

-- Objects of a list have a home.

home_there : (homes : List (Option Home)) (x y : ℕ) (home : Home) → get_or homes y None ≡ Some home → y ≡ x → IsSome (get_or homes x None)
home_there homes x y home is same = ap is_some (ap (λ z. get_or homes z None) (sym same) ∙ is)

in_table : (homes : List (Option Home)) (number offset : ℕ) (objects : List ℕ) (x : ℕ) → InTable homes number offset objects → Contains objects x
    → IsSome (get_or homes x None)
unfolding InTable
in_table homes number offset [] x is (k, within, at) = absurd (omega arith)
in_table homes number offset (object ∷ more) x is (zero, within, at) = home_there homes x object _ is.0 at
in_table homes number offset (object ∷ more) x is (suc k, within, at) = in_table homes number (offset + 8) more x is.1 (k, omega arith, at)

in_variable : (shapes : List Shape) (homes : List (Option Home)) (number end : ℕ) (objects : List ℕ) (x : ℕ) → InVariable shapes homes number end objects
    → Contains objects x → IsSome (get_or homes x None)
unfolding InVariable
in_variable shapes homes number end [] x is (k, within, at) = absurd (omega arith)
in_variable shapes homes number end (object ∷ more) x is (zero, within, at) = home_there homes x object _ is.0 at
in_variable shapes homes number end (object ∷ more) x is (suc k, within, at) =
    in_variable shapes homes number (end_behind end (shape_at shapes object)) more x is.1 (k, omega arith, at)

in_group : (shapes : List Shape) (homes : List (Option Home)) (variables tables : ℕ) (sort : Bool) (objects : List ℕ) (x : ℕ)
    → InGroup shapes homes variables tables sort objects → Contains objects x → IsSome (get_or homes x None)
in_group shapes homes variables tables true objects x is held = in_table homes tables 0 objects x is held
in_group shapes homes variables tables false objects x is held = in_variable shapes homes variables 0 objects x is held

in_groups : (shapes : List Shape) (homes : List (Option Home)) (variables tables : ℕ) (groups : List Group) (group : Group) (x : ℕ)
    → AreHome shapes homes variables tables groups → Contains groups group → Contains group.members x → IsSome (get_or homes x None)
unfolding AreHome
in_groups shapes homes variables tables [] group x is (k, within, at) held = absurd (omega arith)
in_groups shapes homes variables tables (one ∷ groups) group x is (zero, within, at) held =
    in_group shapes homes variables tables one.table one.members x is.0 (subst (λ (g : Group). Contains g.members x) (sym at) held)
in_groups shapes homes variables tables (one ∷ groups) group x is (suc k, within, at) held =
    in_groups shapes homes (if one.table then variables else variables + 1) (if one.table then tables + 1 else tables) groups group x is.1
    (k, omega arith, at) held

listed_home : (ids : List IdMembers) (shapes : List Shape) → All (IsId shapes) ids → (x : ℕ) → IsListed ids x → IsSome (home_of (layout_of ids shapes) x)
listed_home ids shapes all x (id, (number, within, at), held) =
    let same : objects_at ids number ≡ id.members = ap (λ (i : IdMembers). i.members) (get_or_default ids number no_id id within ∙ at) in
    let (j, below, is) : Contains (objects_at ids number) x = subst (λ (objects : List ℕ). Contains objects x) (sym same) held in
    let (group, inside, each) = together ids shapes number within in
    in_groups shapes (layout_of ids shapes).homes 0 0 (groups_of (layout_of ids shapes)) group x (law-homes ids shapes all) inside
    (subst (λ y. Contains group.members y) is (each j x below))

pub law-listed : ListedHaveHomes
law-listed ids shapes all x = (home_listed ids shapes x, listed_home ids shapes all x)
