-- Homes don't overlap.
use Rattle.std.proofs.Common.{◌≡◌, ◌≢◌, ℕ, ◌+◌, ◌≤◌, ◌⊎◌, inl, inr, Bool, true, false, List, [], ◌∷◌, ◌++◌, get_or, sym, ap, subst, ◌∙◌, arith, Option, Some, None}
use Rattle.std.specs.Prelude.{All, if◌then◌else◌}
use Rattle.std.proofs.lemmas.Bool.{cases_eq, ne_eqb}
use Rattle.std.proofs.lemmas.Option.{same_Some}
use Rattle.global_layout.specs.declared.ids.Shape.{Shape}
use Rattle.global_layout.specs.declared.groups.Home.{Home}
use Rattle.global_layout.specs.declared.groups.Group.{Group}
use Rattle.global_layout.specs.Slots.{raised, home_behind, end_behind}
use Rattle.global_layout.specs.Layout.{IsShape, shape_at, layout_of, groups_of}
use Rattle.global_layout.specs.Laws.{InTable, InVariable, InGroup, AreHome, bytes_at, home_bytes, HomesAreApart}
use Rattle.global_layout.proofs.PadLemmas.{raised-reaches, align-some, pad-reaches, end-grows}
use Rattle.global_layout.proofs.PlacingLemmas.{shape-is}
use Rattle.global_layout.proofs.OnceLemmas.{count}
use Rattle.global_layout.proofs.HomeLaws.{members_of, law-homes}
use Rattle.global_layout.proofs.ListedLaws.{placed-counted}

-- Members of lists.

Lists : ℕ → List ℕ → Type 0
Lists x [] = ⊥
Lists x (y ∷ ys) = (y ≡ x) ⊎ Lists x ys

counted_lists : (x : ℕ) (ys : List ℕ) → 1 ≤ count x ys → Lists x ys
unfolding Lists count
counted_lists x [] some = absurd (omega (arith, some))
counted_lists x (y ∷ ys) some = elim (cases_eq y x) [
  | inl same ↦ inl same
  | inr other ↦
      let h : 1 ≤ 0 + count x ys = subst (λ (t : Bool). 1 ≤ (if t then 1 else 0) + count x ys) (ne_eqb y x other) some in
      inr (counted_lists x ys (omega (arith, h)))
]

lists_split : (x : ℕ) (ys zs : List ℕ) → Lists x (ys ++ zs) → Lists x ys ⊎ Lists x zs
unfolding Lists
lists_split x [] zs held = inr held
lists_split x (y ∷ ys) zs (inl here) = inl (inl here)
lists_split x (y ∷ ys) zs (inr later) = step (lists_split x ys zs later) where
  step : Lists x ys ⊎ Lists x zs → ((y ≡ x) ⊎ Lists x ys) ⊎ Lists x zs
  step (inl held) = inl (inr held)
  step (inr held) = inr held

-- One group.

head_home : (homes : List (Option Home)) (x y : ℕ) (home there : Home) → get_or homes y None ≡ Some there → y ≡ x → get_or homes x None ≡ Some home → home ≡ there
head_home homes x y home there known same is = same_Some home there (sym is ∙ ap (λ z. get_or homes z None) (sym same) ∙ known)

-- an object of a table has its home there, behind what stood before
table_low : (homes : List (Option Home)) (number low : ℕ) (objects : List ℕ) (x : ℕ) (home : Home) → InTable homes number low objects → Lists x objects
    → get_or homes x None ≡ Some home → (home.table ≡ true) × (home.number ≡ number) × (low ≤ home.offset)
unfolding InTable Lists
table_low homes number low [] x home is held at = absurd held
table_low homes number low (object ∷ more) x home is (inl here) at =
    let same : home ≡ record { table = true; number = number; offset = low } = head_home homes x object home _ is.0 here at in
    let offset : home.offset ≡ low = ap (λ (h : Home). h.offset) same in
    (ap (λ (h : Home). h.table) same, ap (λ (h : Home). h.number) same, omega (arith, offset))
table_low homes number low (object ∷ more) x home is (inr later) at =
    let (sort, same, above) = table_low homes number (low + 8) more x home is.1 later at in
    (sort, same, omega (arith, above))

variable_low : (shapes : List Shape) (homes : List (Option Home)) (number end : ℕ) (objects : List ℕ) (x : ℕ) (home : Home) → All IsShape shapes
    → InVariable shapes homes number end objects → Lists x objects → get_or homes x None ≡ Some home
    → (home.table ≡ false) × (home.number ≡ number) × (end + (shape_at shapes x).before ≤ home.offset)
unfolding InVariable Lists
variable_low shapes homes number end [] x home all is held at = absurd held
variable_low shapes homes number end (object ∷ more) x home all is (inl here) at =
    let shape : Shape = shape_at shapes object in
    let same : home ≡ record { table = false; number = number; offset = home_behind end shape } = head_home homes x object home _ is.0 here at in
    let offset : home.offset ≡ home_behind end shape = ap (λ (h : Home). h.offset) same in
    let some = align-some shape.align (shape-is shapes object all).align in
    let start = raised-reaches end shape.align some in
    let before = raised-reaches shape.before shape.align some in
    let low : end + shape.before ≤ home.offset = omega (arith, offset, start, before) in
    (ap (λ (h : Home). h.table) same, ap (λ (h : Home). h.number) same, subst (λ z. end + (shape_at shapes z).before ≤ home.offset) here low)
variable_low shapes homes number end (object ∷ more) x home all is (inr later) at =
    let (sort, same, above) = variable_low shapes homes number (end_behind end (shape_at shapes object)) more x home all is.1 later at in
    let grown = end-grows end (shape_at shapes object) (shape-is shapes object all) in
    (sort, same, omega (arith, above, grown))

-- the end of the first one of a combined variable
variable_high : (shapes : List Shape) (homes : List (Option Home)) (number end x object : ℕ) (home : Home)
    → get_or homes object None ≡ Some (record { table = false; number = number; offset = home_behind end (shape_at shapes object) }) → object ≡ x
    → get_or homes x None ≡ Some home → home.offset + (shape_at shapes x).extent + (shape_at shapes x).after ≤ end_behind end (shape_at shapes object)
variable_high shapes homes number end x object home known here at =
    let shape : Shape = shape_at shapes object in
    let same : home ≡ record { table = false; number = number; offset = home_behind end shape } = head_home homes x object home _ known here at in
    let offset : home.offset ≡ home_behind end shape = ap (λ (h : Home). h.offset) same in
    let padded = pad-reaches (raised shape.before shape.align + shape.extent + shape.after) in
    let high : home.offset + shape.extent + shape.after ≤ end_behind end shape = omega (arith, offset, padded) in
    subst (λ z. home.offset + (shape_at shapes z).extent + (shape_at shapes z).after ≤ end_behind end shape) here high

-- one ends before the other begins
IsEither : Bool → List Shape → (a : ℕ) (one : Home) (b : ℕ) (other : Home) → Type 0
IsEither sort shapes a one b other =
    ((bytes_at sort one.offset (shape_at shapes a)).to ≤ (bytes_at sort other.offset (shape_at shapes b)).from)
    ⊎ ((bytes_at sort other.offset (shape_at shapes b)).to ≤ (bytes_at sort one.offset (shape_at shapes a)).from)

table_pair : (shapes : List Shape) (homes : List (Option Home)) (number low : ℕ) (objects : List ℕ) (a b : ℕ) (one other : Home)
    → InTable homes number low objects → Lists a objects → Lists b objects → a ≢ b → get_or homes a None ≡ Some one → get_or homes b None ≡ Some other
    → IsEither true shapes a one b other
unfolding InTable Lists IsEither
table_pair shapes homes number low [] a b one other is in_a in_b apart at_a at_b = absurd in_a
table_pair shapes homes number low (object ∷ more) a b one other is (inl a_here) (inl b_here) apart at_a at_b = absurd (apart (sym a_here ∙ b_here))
table_pair shapes homes number low (object ∷ more) a b one other is (inl a_here) (inr later) apart at_a at_b =
    let offset : one.offset ≡ low = ap (λ (h : Home). h.offset) (head_home homes a object one _ is.0 a_here at_a) in
    let above = (table_low homes number (low + 8) more b other is.1 later at_b).2 in
    inl (omega (arith, offset, above))
table_pair shapes homes number low (object ∷ more) a b one other is (inr later) (inl b_here) apart at_a at_b =
    let offset : other.offset ≡ low = ap (λ (h : Home). h.offset) (head_home homes b object other _ is.0 b_here at_b) in
    let above = (table_low homes number (low + 8) more a one is.1 later at_a).2 in
    inr (omega (arith, offset, above))
table_pair shapes homes number low (object ∷ more) a b one other is (inr a_later) (inr b_later) apart at_a at_b =
    table_pair shapes homes number (low + 8) more a b one other is.1 a_later b_later apart at_a at_b

variable_pair : (shapes : List Shape) (homes : List (Option Home)) (number end : ℕ) (objects : List ℕ) (a b : ℕ) (one other : Home) → All IsShape shapes
    → InVariable shapes homes number end objects → Lists a objects → Lists b objects → a ≢ b → get_or homes a None ≡ Some one → get_or homes b None ≡ Some other
    → IsEither false shapes a one b other
unfolding InVariable Lists IsEither
variable_pair shapes homes number end [] a b one other all is in_a in_b apart at_a at_b = absurd in_a
variable_pair shapes homes number end (object ∷ more) a b one other all is (inl a_here) (inl b_here) apart at_a at_b = absurd (apart (sym a_here ∙ b_here))
variable_pair shapes homes number end (object ∷ more) a b one other all is (inl a_here) (inr later) apart at_a at_b =
    let high = variable_high shapes homes number end a object one is.0 a_here at_a in
    let low = (variable_low shapes homes number (end_behind end (shape_at shapes object)) more b other all is.1 later at_b).2 in
    inl (omega (arith, high, low))
variable_pair shapes homes number end (object ∷ more) a b one other all is (inr later) (inl b_here) apart at_a at_b =
    let high = variable_high shapes homes number end b object other is.0 b_here at_b in
    let low = (variable_low shapes homes number (end_behind end (shape_at shapes object)) more a one all is.1 later at_a).2 in
    inr (omega (arith, high, low))
variable_pair shapes homes number end (object ∷ more) a b one other all is (inr a_later) (inr b_later) apart at_a at_b =
    variable_pair shapes homes number (end_behind end (shape_at shapes object)) more a b one other all is.1 a_later b_later apart at_a at_b

group_pair : (shapes : List Shape) (homes : List (Option Home)) (v t : ℕ) (sort : Bool) (objects : List ℕ) (a b : ℕ) (one other : Home) → All IsShape shapes
    → InGroup shapes homes v t sort objects → Lists a objects → Lists b objects → a ≢ b → get_or homes a None ≡ Some one → get_or homes b None ≡ Some other
    → IsEither sort shapes a one b other
group_pair shapes homes v t true objects a b one other all is in_a in_b apart at_a at_b = table_pair shapes homes t 0 objects a b one other is in_a in_b apart at_a at_b
group_pair shapes homes v t false objects a b one other all is in_a in_b apart at_a at_b = variable_pair shapes homes v 0 objects a b one other all is in_a in_b apart at_a at_b

group_number : (shapes : List Shape) (homes : List (Option Home)) (v t : ℕ) (sort : Bool) (objects : List ℕ) (x : ℕ) (home : Home) → All IsShape shapes
    → InGroup shapes homes v t sort objects → Lists x objects → get_or homes x None ≡ Some home → (home.table ≡ sort) × (home.number ≡ (if sort then t else v))
group_number shapes homes v t true objects x home all is held at = let (sort, same, above) = table_low homes t 0 objects x home is held at in (sort, same)
group_number shapes homes v t false objects x home all is held at = let (sort, same, above) = variable_low shapes homes v 0 objects x home all is held at in (sort, same)

-- Several groups.

-- the homes of later groups have later numbers
later_number : (shapes : List Shape) (homes : List (Option Home)) (v t : ℕ) (groups : List Group) (x : ℕ) (home : Home) → All IsShape shapes
    → AreHome shapes homes v t groups → Lists x (members_of groups) → get_or homes x None ≡ Some home → (if home.table then t else v) ≤ home.number
unfolding AreHome members_of Lists
later_number shapes homes v t [] x home all is held at = absurd held
later_number shapes homes v t (group ∷ groups) x home all is held at =
    by_place (lists_split x group.members (members_of groups) held)
    (λ later. later_number shapes homes (if group.table then v else v + 1) (if group.table then t + 1 else t) groups x home all is.1 later at) where
      here : (sort : Bool) → (home.table ≡ sort) × (home.number ≡ (if sort then t else v)) → (if home.table then t else v) ≤ home.number
      here true (same, number) = subst (λ (s : Bool). (if s then t else v) ≤ home.number) (sym same) (omega (arith, number))
      here false (same, number) = subst (λ (s : Bool). (if s then t else v) ≤ home.number) (sym same) (omega (arith, number))

      fewer : (sort mine : Bool) → (if mine then (if sort then t + 1 else t) else (if sort then v else v + 1)) ≤ home.number → (if mine then t else v) ≤ home.number
      fewer true true h = omega (arith, h)
      fewer true false h = omega (arith, h)
      fewer false true h = omega (arith, h)
      fewer false false h = omega (arith, h)

      by_place : Lists x group.members ⊎ Lists x (members_of groups)
          → (Lists x (members_of groups) → (if home.table then (if group.table then t + 1 else t) else (if group.table then v else v + 1)) ≤ home.number)
          → (if home.table then t else v) ≤ home.number
      by_place (inl inside) rest = here group.table (group_number shapes homes v t group.table group.members x home all is.0 inside at)
      by_place (inr later) rest = fewer group.table home.table (rest later)

-- an object of a group and one of a later group have homes in different groups
numbers_clash : (sort : Bool) (v t : ℕ) (one other : Home) → (one.table ≡ sort) × (one.number ≡ (if sort then t else v))
    → (if other.table then (if sort then t + 1 else t) else (if sort then v else v + 1)) ≤ other.number → one.table ≡ other.table → one.number ≡ other.number → ⊥
numbers_clash true v t one other (same, number) above sort equal =
    let h : t + 1 ≤ other.number = subst (λ (s : Bool). (if s then t + 1 else v) ≤ other.number) (sym sort ∙ same) above in
    omega (arith, h, number, equal)
numbers_clash false v t one other (same, number) above sort equal =
    let h : v + 1 ≤ other.number = subst (λ (s : Bool). (if s then t else v + 1) ≤ other.number) (sym sort ∙ same) above in
    omega (arith, h, number, equal)

homes_pair : (shapes : List Shape) (homes : List (Option Home)) (v t : ℕ) (groups : List Group) (a b : ℕ) (one other : Home) → All IsShape shapes
    → AreHome shapes homes v t groups → Lists a (members_of groups) → Lists b (members_of groups) → a ≢ b → get_or homes a None ≡ Some one
    → get_or homes b None ≡ Some other → one.table ≡ other.table → one.number ≡ other.number → IsEither one.table shapes a one b other
unfolding AreHome members_of Lists
homes_pair shapes homes v t [] a b one other all is in_a in_b apart at_a at_b sort number = absurd in_a
homes_pair shapes homes v t (group ∷ groups) a b one other all is in_a in_b apart at_a at_b sort number =
    by_place (lists_split a group.members (members_of groups) in_a) (lists_split b group.members (members_of groups) in_b)
    (λ a_later b_later. homes_pair shapes homes (if group.table then v else v + 1) (if group.table then t + 1 else t) groups a b one other all is.1
    a_later b_later apart at_a at_b sort number) where
      by_place : Lists a group.members ⊎ Lists a (members_of groups) → Lists b group.members ⊎ Lists b (members_of groups)
          → (Lists a (members_of groups) → Lists b (members_of groups) → IsEither one.table shapes a one b other) → IsEither one.table shapes a one b other
      by_place (inl a_here) (inl b_here) rest =
          subst (λ (s : Bool). IsEither s shapes a one b other) (sym (group_number shapes homes v t group.table group.members a one all is.0 a_here at_a).0)
          (group_pair shapes homes v t group.table group.members a b one other all is.0 a_here b_here apart at_a at_b)
      by_place (inl a_here) (inr b_later) rest = absurd (numbers_clash group.table v t one other
          (group_number shapes homes v t group.table group.members a one all is.0 a_here at_a)
          (later_number shapes homes (if group.table then v else v + 1) (if group.table then t + 1 else t) groups b other all is.1 b_later at_b) sort number)
      by_place (inr a_later) (inl b_here) rest = absurd (numbers_clash group.table v t other one
          (group_number shapes homes v t group.table group.members b other all is.0 b_here at_b)
          (later_number shapes homes (if group.table then v else v + 1) (if group.table then t + 1 else t) groups a one all is.1 a_later at_a) (sym sort) (sym number))
      by_place (inr a_later) (inr b_later) rest = rest a_later b_later

pub homes-apart : HomesAreApart
unfolding IsEither
homes-apart ids shapes all are a b apart one other at_a at_b sort number =
    turned (homes_pair shapes (layout_of ids shapes).homes 0 0 (groups_of (layout_of ids shapes)) a b one other are (law-homes ids shapes all)
    (counted_lists a (members_of (groups_of (layout_of ids shapes))) (placed-counted ids shapes a one at_a))
    (counted_lists b (members_of (groups_of (layout_of ids shapes))) (placed-counted ids shapes b other at_b)) apart at_a at_b sort number) where
      turned : IsEither one.table shapes a one b other
          → ((home_bytes one (shape_at shapes a)).to ≤ (home_bytes other (shape_at shapes b)).from) ⊎ ((home_bytes other (shape_at shapes b)).to ≤ (home_bytes one (shape_at shapes a)).from)
      turned is = subst (λ (s : Bool). ((bytes_at one.table one.offset (shape_at shapes a)).to ≤ (bytes_at s other.offset (shape_at shapes b)).from)
          ⊎ ((bytes_at s other.offset (shape_at shapes b)).to ≤ (bytes_at one.table one.offset (shape_at shapes a)).from)) sort is
