-- Each object of a group has its home there.
use Rattle.std.proofs.Common.{◌≡◌, ◌≢◌, ℕ, ◌+◌, ◌<◌, ◌≤◌, ◌⊎◌, inl, inr, Bool, true, false, List, [], ◌∷◌, ◌++◌, length, get_or, fold, refl, sym, ap, subst, ◌∙◌, arith, Option, None, add-zero}
use Rattle.std.specs.Prelude.{All, ◌==◌, if◌then◌else◌}
use Rattle.std.specs.List.{concat}
use Rattle.std.proofs.lemmas.List.{length-set, get_or-set_same, get_or-set_other, length-replicate}
use Rattle.std.proofs.lemmas.List.Elements.{All-head, All-tail}
use Rattle.std.proofs.lemmas.Bool.{eq-eqb}
use Rattle.global_layout.specs.declared.ids.Shape.{Shape}
use Rattle.global_layout.specs.declared.groups.Home.{Home}
use Rattle.global_layout.specs.declared.groups.Group.{Group}
use Rattle.global_layout.specs.declared.slots.Slots.{Slots}
use Rattle.global_layout.specs.declared.placing.Placing.{Placing}
use Rattle.global_layout.specs.Slots.{end_behind}
use Rattle.global_layout.specs.Fragments.{fragments_of}
use Rattle.global_layout.specs.Layout.{shape_at, slot_more, entry_more, variable_slots, table_slots, variable_more, table_more, is_table, fragment_more, none_placed}
use Rattle.global_layout.specs.Laws.{InTable, InVariable, InGroup, AreHome, ObjectsHaveHomes}
use Rattle.global_layout.proofs.OnceLemmas.{count, count-append, fragments-once}
use Rattle.global_layout.proofs.WithinLemmas.{fragments-within}

-- Other objects keep their homes.

Agree : List (Option Home) → List (Option Home) → List ℕ → Type 0
Agree old new objects = (x : ℕ) → 1 ≤ count x objects → get_or new x None ≡ get_or old x None

head_counts : (x : ℕ) (more : List ℕ) → 1 ≤ count x (x ∷ more)
unfolding count
head_counts x more = subst (λ (t : Bool). 1 ≤ (if t then 1 else 0) + count x more) (sym (eq-eqb x x refl)) (omega arith)

tail_counts : (x y : ℕ) (more : List ℕ) → 1 ≤ count x more → 1 ≤ count x (y ∷ more)
unfolding count
tail_counts x y more some = by_test (y == x) where
  by_test : (t : Bool) → 1 ≤ (if t then 1 else 0) + count x more
  by_test true = omega arith
  by_test false = omega (arith, some)

table_agrees : (old new : List (Option Home)) (number offset : ℕ) (objects : List ℕ) → Agree old new objects → InTable old number offset objects → InTable new number offset objects
unfolding InTable Agree
table_agrees old new number offset [] agree is = tt
table_agrees old new number offset (object ∷ more) agree is = (
  agree object (head_counts object more) ∙ is.0,
  table_agrees old new number (offset + 8) more (λ x some. agree x (tail_counts x object more some)) is.1,
)

variable_agrees : (shapes : List Shape) (old new : List (Option Home)) (number end : ℕ) (objects : List ℕ) → Agree old new objects
    → InVariable shapes old number end objects → InVariable shapes new number end objects
unfolding InVariable Agree
variable_agrees shapes old new number end [] agree is = tt
variable_agrees shapes old new number end (object ∷ more) agree is = (
  agree object (head_counts object more) ∙ is.0,
  variable_agrees shapes old new number (end_behind end (shape_at shapes object)) more (λ x some. agree x (tail_counts x object more some)) is.1,
)

group_agrees : (shapes : List Shape) (old new : List (Option Home)) (variables tables : ℕ) (sort : Bool) (objects : List ℕ) → Agree old new objects
    → InGroup shapes old variables tables sort objects → InGroup shapes new variables tables sort objects
group_agrees shapes old new variables tables true objects agree is = table_agrees old new tables 0 objects agree is
group_agrees shapes old new variables tables false objects agree is = variable_agrees shapes old new variables 0 objects agree is

unfoldable pub members_of : List Group → List ℕ
members_of [] = []
members_of (group ∷ groups) = group.members ++ members_of groups

more_counts : (x : ℕ) (ys zs : List ℕ) → (1 ≤ count x ys) ⊎ (1 ≤ count x zs) → 1 ≤ count x (ys ++ zs)
more_counts x ys zs some = let both = count-append x ys zs in elim some [ inl here ↦ omega (arith, both, here) | inr there ↦ omega (arith, both, there) ]

homes_agree : (shapes : List Shape) (old new : List (Option Home)) (variables tables : ℕ) (groups : List Group) → Agree old new (members_of groups)
    → AreHome shapes old variables tables groups → AreHome shapes new variables tables groups
unfolding AreHome members_of Agree
homes_agree shapes old new variables tables [] agree is = tt
homes_agree shapes old new variables tables (group ∷ groups) agree is = (
  group_agrees shapes old new variables tables group.table group.members (λ x some. agree x (more_counts x group.members (members_of groups) (inl some))) is.0,
  homes_agree shapes old new (if group.table then variables else variables + 1) (if group.table then tables + 1 else tables) groups
      (λ x some. agree x (more_counts x group.members (members_of groups) (inr some))) is.1,
)

-- The objects of a fragment.

not_counted : (x y : ℕ) (more : List ℕ) → count x (y ∷ more) ≡ 0 → (x ≢ y) × (count x more ≡ 0)
unfolding count
not_counted x y more none = (λ same. absurd (clash same), rest (y == x) none) where
  clash : x ≡ y → ⊥
  clash same =
      let h : 1 + count x more ≡ 0 = ap (λ (t : Bool). (if t then 1 else 0) + count x more) (sym (eq-eqb y x (sym same))) ∙ none in
      omega (arith, h)

  rest : (t : Bool) → (if t then 1 else 0) + count x more ≡ 0 → count x more ≡ 0
  rest true h = absurd (omega (arith, h))
  rest false h = omega (arith, h)

counted_once : (y : ℕ) (more : List ℕ) → count y (y ∷ more) ≤ 1 → count y more ≡ 0
unfolding count
counted_once y more once =
    let h : 1 + count y more ≤ 1 = subst (λ (t : Bool). (if t then 1 else 0) + count y more ≤ 1) (eq-eqb y y refl) once in
    omega (arith, h)

tail_once : (x y : ℕ) (more : List ℕ) → count x (y ∷ more) ≤ 1 → count x more ≤ 1
unfolding count
tail_once x y more once = omega (arith, once)

pub slots-keep : (shapes : List Shape) (number : ℕ) (slots : Slots) (objects : List ℕ) (x : ℕ) → count x objects ≡ 0
    → get_or (fold (slot_more shapes number) slots objects).homes x None ≡ get_or slots.homes x None
slots-keep shapes number slots [] x none = refl
slots-keep shapes number slots (object ∷ more) x none =
    let apart = not_counted x object more none in
    slots-keep shapes number (slot_more shapes number slots object) more x apart.1 ∙ get_or-set_other slots.homes object x _ None apart.0

pub entries-keep : (number : ℕ) (slots : Slots) (objects : List ℕ) (x : ℕ) → count x objects ≡ 0
    → get_or (fold (entry_more number) slots objects).homes x None ≡ get_or slots.homes x None
entries-keep number slots [] x none = refl
entries-keep number slots (object ∷ more) x none =
    let apart = not_counted x object more none in
    entries-keep number (entry_more number slots object) more x apart.1 ∙ get_or-set_other slots.homes object x _ None apart.0

slots_home : (shapes : List Shape) (number : ℕ) (slots : Slots) (objects : List ℕ) → ((x : ℕ) → count x objects ≤ 1) → All (λ object. object < length slots.homes) objects
    → InVariable shapes (fold (slot_more shapes number) slots objects).homes number slots.length objects
unfolding InVariable
slots_home shapes number slots [] once within = tt
slots_home shapes number slots (object ∷ more) once within =
    let next : Slots = slot_more shapes number slots object in
    let inside : object < length slots.homes = All-head (λ o. o < length slots.homes) object more within in (
      slots-keep shapes number next more object (counted_once object more (once object)) ∙ get_or-set_same slots.homes object _ None inside,
      slots_home shapes number next more (λ x. tail_once x object more (once x))
          (subst (λ n. All (λ o. o < n) more) (sym (length-set slots.homes object _)) (All-tail (λ o. o < length slots.homes) object more within)),
    )

entries_home : (number : ℕ) (slots : Slots) (objects : List ℕ) → ((x : ℕ) → count x objects ≤ 1) → All (λ object. object < length slots.homes) objects
    → InTable (fold (entry_more number) slots objects).homes number slots.length objects
unfolding InTable
entries_home number slots [] once within = tt
entries_home number slots (object ∷ more) once within =
    let next : Slots = entry_more number slots object in
    let inside : object < length slots.homes = All-head (λ o. o < length slots.homes) object more within in (
      entries-keep number next more object (counted_once object more (once object)) ∙ get_or-set_same slots.homes object _ None inside,
      entries_home number next more (λ x. tail_once x object more (once x))
          (subst (λ n. All (λ o. o < n) more) (sym (length-set slots.homes object _)) (All-tail (λ o. o < length slots.homes) object more within)),
    )

slots_long : (shapes : List Shape) (number : ℕ) (slots : Slots) (objects : List ℕ) → length (fold (slot_more shapes number) slots objects).homes ≡ length slots.homes
slots_long shapes number slots [] = refl
slots_long shapes number slots (object ∷ more) = slots_long shapes number (slot_more shapes number slots object) more ∙ length-set slots.homes object _

entries_long : (number : ℕ) (slots : Slots) (objects : List ℕ) → length (fold (entry_more number) slots objects).homes ≡ length slots.homes
entries_long number slots [] = refl
entries_long number slots (object ∷ more) = entries_long number (entry_more number slots object) more ∙ length-set slots.homes object _

-- One group more.

plain : List Group → ℕ
plain [] = 0
plain (group ∷ groups) = (if group.table then 0 else 1) + plain groups

tabled : List Group → ℕ
tabled [] = 0
tabled (group ∷ groups) = (if group.table then 1 else 0) + tabled groups

plain_push : (groups : List Group) (group : Group) → plain (groups ++ group ∷ []) ≡ plain groups + (if group.table then 0 else 1)
unfolding plain
plain_push [] group = omega arith
plain_push (one ∷ groups) group = let rest = plain_push groups group in omega (arith, rest)

tabled_push : (groups : List Group) (group : Group) → tabled (groups ++ group ∷ []) ≡ tabled groups + (if group.table then 1 else 0)
unfolding tabled
tabled_push [] group = omega arith
tabled_push (one ∷ groups) group = let rest = tabled_push groups group in omega (arith, rest)

members_push : (x : ℕ) (groups : List Group) (group : Group) → count x (members_of (groups ++ group ∷ [])) ≡ count x (members_of groups) + count x group.members
unfolding members_of count
members_push x [] group = count-append x group.members [] ∙ turned (count x group.members) where
  turned : (n : ℕ) → n + 0 ≡ 0 + n
  turned n = omega arith
members_push x (one ∷ groups) group =
    let rest = members_push x groups group in
    let whole = count-append x one.members (members_of (groups ++ group ∷ [])) in
    let before = count-append x one.members (members_of groups) in
    omega (arith, rest, whole, before)

homes_push : (shapes : List Shape) (homes : List (Option Home)) (v t : ℕ) (groups : List Group) (group : Group) → AreHome shapes homes v t groups
    → InGroup shapes homes (v + plain groups) (t + tabled groups) group.table group.members → AreHome shapes homes v t (groups ++ group ∷ [])
unfolding AreHome plain tabled
homes_push shapes homes v t [] group before here = (
  subst (λ n. InGroup shapes homes n t group.table group.members) (add-zero v)
      (subst (λ n. InGroup shapes homes (v + 0) n group.table group.members) (add-zero t) here),
  tt,
)
homes_push shapes homes v t (one ∷ groups) group before here = (
  before.0,
  homes_push shapes homes (if one.table then v else v + 1) (if one.table then t + 1 else t) groups group before.1
      (subst (λ n. InGroup shapes homes n ((if one.table then t + 1 else t) + tabled groups) group.table group.members) (sym (variables one.table))
      (subst (λ n. InGroup shapes homes (v + ((if one.table then 0 else 1) + plain groups)) n group.table group.members) (sym (tables one.table)) here)),
) where
  variables : (s : Bool) → (if s then v else v + 1) + plain groups ≡ v + ((if s then 0 else 1) + plain groups)
  variables true = omega arith
  variables false = omega arith

  tables : (s : Bool) → (if s then t + 1 else t) + tabled groups ≡ t + ((if s then 1 else 0) + tabled groups)
  tables true = omega arith
  tables false = omega arith

-- One fragment more.

record IsSound (shapes : List Shape) (placing : Placing) : Type 0 where
  homes : AreHome shapes placing.homes 0 0 placing.groups
  variables : placing.variables ≡ 0 + plain placing.groups
  tables : placing.tables ≡ 0 + tabled placing.groups
  long : length placing.homes ≡ length shapes

-- what the fragment has to be: objects of the shapes that no group has
abbrev IsNew : List Shape → Placing → List ℕ → Type 0
IsNew shapes placing objects = All (λ object. object < length shapes) objects × ((x : ℕ) → count x (members_of placing.groups) + count x objects ≤ 1)

variable_sound : (shapes : List Shape) (placing : Placing) (objects : List ℕ) → IsSound shapes placing → IsNew shapes placing objects
    → IsSound shapes (variable_more shapes placing objects)
unfolding Agree
variable_sound shapes placing objects sound (within, new) =
    let first : Slots = record { length = 0; align = 1; homes = placing.homes } in
    let slots : Slots = variable_slots shapes placing.variables placing.homes objects in
    let group : Group = record { table = false; members = objects; length = slots.length; align = slots.align } in
    let plain_more = plain_push placing.groups group in
    let tabled_more = tabled_push placing.groups group in
    let variables = sound.variables in
    let tables = sound.tables in
    record {
      homes = homes_push shapes slots.homes 0 0 placing.groups group
          (homes_agree shapes placing.homes slots.homes 0 0 placing.groups
          (λ x some. slots-keep shapes placing.variables first objects x (let few = new x in omega (arith, some, few))) sound.homes)
          (subst (λ n. InVariable shapes slots.homes n 0 objects) variables
          (slots_home shapes placing.variables first objects (λ x. let few = new x in omega (arith, few))
          (subst (λ n. All (λ o. o < n) objects) (sym sound.long) within)));
      variables = omega (arith, plain_more, variables);
      tables = omega (arith, tabled_more, tables);
      long = slots_long shapes placing.variables first objects ∙ sound.long;
    }

table_sound : (shapes : List Shape) (placing : Placing) (objects : List ℕ) → IsSound shapes placing → IsNew shapes placing objects
    → IsSound shapes (table_more placing objects)
unfolding Agree
table_sound shapes placing objects sound (within, new) =
    let first : Slots = record { length = 0; align = 8; homes = placing.homes } in
    let slots : Slots = table_slots placing.tables placing.homes objects in
    let group : Group = record { table = true; members = objects; length = slots.length; align = slots.align } in
    let plain_more = plain_push placing.groups group in
    let tabled_more = tabled_push placing.groups group in
    let variables = sound.variables in
    let tables = sound.tables in
    record {
      homes = homes_push shapes slots.homes 0 0 placing.groups group
          (homes_agree shapes placing.homes slots.homes 0 0 placing.groups
          (λ x some. entries-keep placing.tables first objects x (let few = new x in omega (arith, some, few))) sound.homes)
          (subst (λ n. InTable slots.homes n 0 objects) tables
          (entries_home placing.tables first objects (λ x. let few = new x in omega (arith, few))
          (subst (λ n. All (λ o. o < n) objects) (sym sound.long) within)));
      variables = omega (arith, plain_more, variables);
      tables = omega (arith, tabled_more, tables);
      long = entries_long placing.tables first objects ∙ sound.long;
    }

fragment_sound : (shapes : List Shape) (placing : Placing) (objects : List ℕ) → IsSound shapes placing → IsNew shapes placing objects
    → IsSound shapes (fragment_more shapes placing objects)
fragment_sound shapes placing objects sound new = by_sort (is_table shapes objects) where
  by_sort : (t : Bool) → IsSound shapes (if t then table_more placing objects else variable_more shapes placing objects)
  by_sort true = table_sound shapes placing objects sound new
  by_sort false = variable_sound shapes placing objects sound new

pub members-more : (x : ℕ) (shapes : List Shape) (placing : Placing) (objects : List ℕ)
    → count x (members_of (fragment_more shapes placing objects).groups) ≡ count x (members_of placing.groups) + count x objects
members-more x shapes placing objects = by_sort (is_table shapes objects) where
  by_sort : (t : Bool) → count x (members_of (if t then table_more placing objects else variable_more shapes placing objects).groups)
      ≡ count x (members_of placing.groups) + count x objects
  by_sort true = members_push x placing.groups _
  by_sort false = members_push x placing.groups _

sound_each : (shapes : List Shape) (placing : Placing) (fragments : List (List ℕ)) → IsSound shapes placing
    → All (All (λ object. object < length shapes)) fragments → ((x : ℕ) → count x (members_of placing.groups) + count x (concat fragments) ≤ 1)
    → IsSound shapes (fold (fragment_more shapes) placing fragments)
sound_each shapes placing [] sound within once = sound
sound_each shapes placing (objects ∷ more) sound within once =
    sound_each shapes (fragment_more shapes placing objects) more
    (fragment_sound shapes placing objects sound (
      All-head (All (λ o. o < length shapes)) objects more within,
      λ x. let few = once x in let both = count-append x objects (concat more) in omega (arith, few, both),
    ))
    (All-tail (All (λ o. o < length shapes)) objects more within)
    (λ x.
    let few = once x in
    let both = count-append x objects (concat more) in
    let now = members-more x shapes placing objects in
    omega (arith, few, both, now))

none_sound : (shapes : List Shape) → IsSound shapes (none_placed (length shapes))
unfolding AreHome plain tabled
none_sound shapes = record { homes = tt; variables = omega arith; tables = omega arith; long = length-replicate (length shapes) None }

none_counted : (x : ℕ) (fragments : List (List ℕ)) → count x (concat fragments) ≤ 1 → count x (members_of []) + count x (concat fragments) ≤ 1
unfolding members_of count
none_counted x fragments once = omega (arith, once)

pub law-homes : ObjectsHaveHomes
law-homes ids shapes all =
    (sound_each shapes (none_placed (length shapes)) (fragments_of ids) (none_sound shapes) (fragments-within ids shapes all)
    (λ x. none_counted x (fragments_of ids) (fragments-once ids shapes x all))).homes
