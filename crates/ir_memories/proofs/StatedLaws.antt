-- The stated placement is a placement.
use Rattle.std.proofs.Common.{◌≡◌, ◌≢◌, ◌∙◌, ◌⊎◌, inl, inr, ℕ, zero, suc, ◌+◌, ◌%◌, ◌<◌, ◌≤◌, Bool, true, false, List, [], ◌∷◌, ◌++◌, length, map, drop, get_or, refl, sym, ap, subst, arith}
use Rattle.std.specs.Prelude.{nat_eq, if◌then◌else◌, slice_index, filter}
use Rattle.std.specs.Int.{next_multiple_of}
use Rattle.std.specs.Cmp.Lexicographic.{pointwise}
use Rattle.std.specs.List.{All, AllPairs, Contains}
use Rattle.std.proofs.Common.{length-append}
use Rattle.std.proofs.lemmas.List.{length_push, get_or_default}
use Rattle.std.proofs.lemmas.List.Elements.{All-append, All-map, All-filter, Contains-append_left, Contains-append_right, Contains-append_cases, All-contains, All-contains_itself, Contains-get_or}
use Rattle.ir_values.specs.declared.modules.Var.{Var}
use Rattle.ir_values.specs.declared.modules.Func.{Func}
use Rattle.ir_values.specs.declared.modules.Jump.{Jump}
use Rattle.ir_values.specs.declared.modules.Module.{Module}
use Rattle.type_metadata.specs.Same.{same_flag}
use Rattle.type_metadata.proofs.SameLaws.{bytes_one, bytes_itself}
use Rattle.type_metadata.proofs.CarrierLaws.{contains_map, map_contains}
use Rattle.ir_memories.specs.declared.stated.Room.{Room}
use Rattle.ir_memories.specs.declared.numeric.Row.{Row}
use Rattle.ir_memories.specs.Placement.{Placeable, AreApart, of_variable, of_table, of_function, placeables}
use Rattle.ir_memories.specs.Numeric.{base_of, rows_at, with_variables, with_tables, with_functions, next_base, variable_row, table_row, function_row, is_external}
use Rattle.ir_memories.specs.Stated.{room_of, rooms, printed, functions_that, stated_from, stated, end_from, placement_of, IsPlaceable, HaveNames, StatedLaw}
use Rattle.ir_memories.proofs.StatedLemmas.{multiple, end_grows}

absurd_false : {P : Type 0} {b : Bool} → b ≡ true → b ≡ false → P
absurd_false one two = cc

-- The address of a name, among objects at addresses from number `index` on.

unfoldable pub base_among : List ℕ → ℕ → List ℕ → ℕ → List Placeable → ℕ
base_among at index name otherwise [] = otherwise
base_among at index name otherwise (object ∷ objects) =
    if pointwise nat_eq object.name name then slice_index at index else base_among at (index + 1) name otherwise objects

pub base_or : List ℕ → ℕ → List Row → ℕ
base_or name otherwise [] = otherwise
base_or name otherwise (row ∷ rows) = if pointwise nat_eq row.name name then row.base else base_or name otherwise rows

base_or_none : (name : List ℕ) (rows : List Row) → base_or name 0 rows ≡ base_of name rows
unfolding base_or
base_or_none name [] = refl
base_or_none name (row ∷ rows) = ap (λ n. if pointwise nat_eq row.name name then row.base else n) (base_or_none name rows)

base_or_append : (name : List ℕ) (otherwise : ℕ) (rows more : List Row) →
    base_or name otherwise (rows ++ more) ≡ base_or name (base_or name otherwise more) rows
unfolding base_or
base_or_append name otherwise [] more = refl
base_or_append name otherwise (row ∷ rows) more =
    ap (λ n. if pointwise nat_eq row.name name then row.base else n) (base_or_append name otherwise rows more)

among_append : (at : List ℕ) (index : ℕ) (name : List ℕ) (otherwise : ℕ) (objects more : List Placeable) →
    base_among at index name otherwise (objects ++ more) ≡ base_among at index name (base_among at (index + length objects) name otherwise more) objects
unfolding base_among
among_append at index name otherwise [] more = let same : index + 0 ≡ index = omega arith in
    ap (λ n. base_among at n name otherwise more) (sym same)
among_append at index name otherwise (object ∷ objects) more =
    let same : index + 1 + length objects ≡ index + suc (length objects) = omega arith in
    ap (λ n. if pointwise nat_eq object.name name then slice_index at index else n)
    (among_append at (index + 1) name otherwise objects more
    ∙ ap (λ k. base_among at (index + 1) name (base_among at k name otherwise more) objects) same)

-- What each kind of object adds: the address of a name, and the number of rows.

pub record Adds (at : List ℕ) (name : List ℕ) (rows after : List Row) (objects : List Placeable) : Type 0 where
  pub base : (otherwise : ℕ) → base_or name otherwise after ≡ base_or name (base_among at (length rows) name otherwise objects) rows
  pub count : length after ≡ length rows + length objects

adds_none : (at : List ℕ) (name : List ℕ) (rows : List Row) → Adds at name rows rows []
unfolding base_among
adds_none at name rows = record { base = λ otherwise. refl; count = omega arith }

-- a row of the object, and those after it
adds_row : (at : List ℕ) (name : List ℕ) (rows after : List Row) (row : Row) (object : Placeable) (objects : List Placeable) →
    row.name ≡ object.name → row.base ≡ slice_index at (length rows) → Adds at name (rows ++ row ∷ []) after objects →
    Adds at name rows after (object ∷ objects)
unfolding base_or base_among
adds_row at name rows after row object objects named based rest =
    let longer : length (rows ++ row ∷ []) ≡ length rows + 1 = length_push rows row in
    let count : length after ≡ length (rows ++ row ∷ []) + length objects = rest.count in
    record {
      base = λ otherwise. rest.base otherwise
          ∙ ap (λ n. base_or name (base_among at n name otherwise objects) (rows ++ row ∷ [])) longer
          ∙ base_or_append name (base_among at (length rows + 1) name otherwise objects) rows (row ∷ [])
          ∙ ap (λ text. base_or name (if pointwise nat_eq text name then row.base else base_among at (length rows + 1) name otherwise objects) rows) named
          ∙ ap (λ base. base_or name (if pointwise nat_eq object.name name then base else base_among at (length rows + 1) name otherwise objects) rows) based;
      count = omega arith;
    }

adds_variables : (at : List ℕ) (name : List ℕ) (rows : List Row) (vs : List Var) →
    Adds at name rows (with_variables at rows vs) (map of_variable vs)
adds_variables at name rows [] = adds_none at name rows
adds_variables at name rows (v ∷ vs) =
    adds_row at name rows (with_variables at (rows ++ variable_row (next_base at rows) v ∷ []) vs) (variable_row (next_base at rows) v)
    (of_variable v) (map of_variable vs) refl refl (adds_variables at name (rows ++ variable_row (next_base at rows) v ∷ []) vs)

adds_tables : (funcs : List Func) (at : List ℕ) (name : List ℕ) (rows : List Row) (ts : List Jump) →
    Adds at name rows (with_tables funcs at rows ts) (map of_table ts)
adds_tables funcs at name rows [] = adds_none at name rows
adds_tables funcs at name rows (t ∷ ts) =
    adds_row at name rows (with_tables funcs at (rows ++ table_row funcs (next_base at rows) t ∷ []) ts) (table_row funcs (next_base at rows) t)
    (of_table t) (map of_table ts) refl refl (adds_tables funcs at name (rows ++ table_row funcs (next_base at rows) t ∷ []) ts)

function_cases : (external : Bool) (at : List ℕ) (name : List ℕ) (index : ℕ) (rows : List Row) (f : Func) (fs : List Func) (b : Bool) →
    Adds at name (rows ++ function_row index (next_base at rows) f ∷ [])
    (with_functions external at (index + 1) (rows ++ function_row index (next_base at rows) f ∷ []) fs) (map of_function (functions_that external fs)) →
    Adds at name rows (with_functions external at (index + 1) rows fs) (map of_function (functions_that external fs)) →
    Adds at name rows
    (if b then with_functions external at (index + 1) (rows ++ function_row index (next_base at rows) f ∷ []) fs
    else with_functions external at (index + 1) rows fs)
    (map of_function (if b then f ∷ functions_that external fs else functions_that external fs))
function_cases external at name index rows f fs true with without =
    adds_row at name rows _ (function_row index (next_base at rows) f) (of_function f) (map of_function (functions_that external fs)) refl refl with
function_cases external at name index rows f fs false with without = without

adds_functions : (external : Bool) (at : List ℕ) (name : List ℕ) (index : ℕ) (rows : List Row) (fs : List Func) →
    Adds at name rows (with_functions external at index rows fs) (map of_function (functions_that external fs))
adds_functions external at name index rows [] = adds_none at name rows
adds_functions external at name index rows (f ∷ fs) =
    function_cases external at name index rows f fs (same_flag (is_external f) external)
    (adds_functions external at name (index + 1) (rows ++ function_row index (next_base at rows) f ∷ []) fs)
    (adds_functions external at name (index + 1) rows fs)

adds_both : (at : List ℕ) (name : List ℕ) (rows between after : List Row) (objects more : List Placeable) →
    Adds at name rows between objects → Adds at name between after more → Adds at name rows after (objects ++ more)
adds_both at name rows between after objects more one two =
    let first : length between ≡ length rows + length objects = one.count in
    let second : length after ≡ length between + length more = two.count in
    record {
      base = λ otherwise. two.base otherwise ∙ one.base _
          ∙ ap (λ n. base_or name (base_among at (length rows) name (base_among at n name otherwise more) objects) rows) one.count
          ∙ ap (λ n. base_or name n rows) (sym (among_append at (length rows) name otherwise objects more));
      count = second ∙ ap (λ n. n + length more) first ∙ (omega (arith, length-append objects more));
    }

-- the address of a name, by the objects in printed order
pub base_printed : (m : Module) (at : List ℕ) (name : List ℕ) → placement_of m at name ≡ base_among at 0 name 0 (printed m)
unfolding base_or
base_printed m at name =
    sym (base_or_none name (rows_at m at))
    ∙ (adds_both at name [] (with_variables at [] m.vars) (rows_at m at) (map of_variable m.vars) _
    (adds_variables at name [] m.vars)
    (adds_both at name _ (with_tables m.funcs at (with_variables at [] m.vars) m.jumps) (rows_at m at) (map of_table m.jumps) _
    (adds_tables m.funcs at name _ m.jumps)
    (adds_both at name _ (with_functions true at 0 (with_tables m.funcs at (with_variables at [] m.vars) m.jumps) m.funcs) (rows_at m at)
    (map of_function (functions_that true m.funcs)) (map of_function (functions_that false m.funcs))
    (adds_functions true at name 0 _ m.funcs) (adds_functions false at name 0 _ m.funcs)))).base 0

-- Where the objects stand.

step_at : (at : List ℕ) (index x : ℕ) (xs : List ℕ) → drop index at ≡ x ∷ xs → (slice_index at index ≡ x) × (drop (suc index) at ≡ xs)
step_at [] zero x xs is = cc
step_at [] (suc index) x xs is = cc
step_at (y ∷ at) zero x xs is = (cc, cc)
step_at (y ∷ at) (suc index) x xs is = step_at at index x xs is

pub step_of : (at : List ℕ) (index x : ℕ) (xs : List ℕ) → drop index at ≡ x ∷ xs → (slice_index at index ≡ x) × (drop (index + 1) at ≡ xs)
step_of at index x xs is =
    let both = step_at at index x xs is in
    let next : suc index ≡ index + 1 = omega arith in
    (both.0, subst (λ n. drop n at ≡ xs) next both.1)

-- an object stands from `end` to `last`, at a multiple of its alignment
pub record Stands (end last : ℕ) (object : Placeable) (base : ℕ) : Type 0 where
  pub behind : end ≤ base
  pub aligned : base % object.align ≡ 0
  pub before : base + object.size ≤ last

-- two objects of one name are one
abbrev pub AreNamed : List Placeable → Type 0
AreNamed objects = (one other : Placeable) → Contains objects one → Contains objects other → one.name ≡ other.name → one ≡ other

abbrev pub AllAligned : List Placeable → Type 0
AllAligned objects = (object : Placeable) → Contains objects object → 1 ≤ object.align

abbrev pub rooms_in : List Placeable → List Room
rooms_in objects = map room_of objects

first_in : (object : Placeable) (objects : List Placeable) → Contains (object ∷ objects) object
first_in object objects = (0, omega arith, refl)

later_in : (object : Placeable) (objects : List Placeable) (other : Placeable) → Contains objects other → Contains (object ∷ objects) other
later_in object objects other (k, within, at) = (suc k, omega (arith, within), at)

rest_named : (object : Placeable) (objects : List Placeable) → AreNamed (object ∷ objects) → AreNamed objects
rest_named object objects named one other of_one of_other = named one other (later_in object objects one of_one) (later_in object objects other of_other)

-- an object of another name than the first is one of the rest
pub in_rest : (object : Placeable) (objects : List Placeable) (other : Placeable) → Contains (object ∷ objects) other →
    pointwise nat_eq object.name other.name ≡ false → Contains objects other
in_rest object objects other (zero, within, at) apart =
    let same : pointwise nat_eq object.name other.name ≡ true = subst (λ (o : Placeable). pointwise nat_eq object.name o.name ≡ true) at (bytes_itself object.name) in
    absurd_false same apart
in_rest object objects other (suc k, within, at) apart = (k, omega (arith, within), at)

-- by whether the first object has the name
found_cases : (at : List ℕ) (index end otherwise : ℕ) (object : Placeable) (objects : List Placeable) (wanted : Placeable) (b : Bool) →
    pointwise nat_eq object.name wanted.name ≡ b → 1 ≤ object.align → (object.name ≡ wanted.name → object ≡ wanted) →
    slice_index at index ≡ next_multiple_of end object.align →
    (pointwise nat_eq object.name wanted.name ≡ false → Stands (next_multiple_of end object.align + object.size)
    (end_from (next_multiple_of end object.align + object.size) (rooms_in objects)) wanted (base_among at (index + 1) wanted.name otherwise objects)) →
    Stands end (end_from (next_multiple_of end object.align + object.size) (rooms_in objects)) wanted
    (if b then slice_index at index else base_among at (index + 1) wanted.name otherwise objects)
found_cases at index end otherwise object objects wanted true is some one here rest =
    let grows = end_grows (next_multiple_of end object.align + object.size) (rooms_in objects) in
    let even = multiple end object.align some in
    subst (λ base. Stands end (end_from (next_multiple_of end object.align + object.size) (rooms_in objects)) wanted base) (sym here)
    (subst (λ o. Stands end (end_from (next_multiple_of end object.align + object.size) (rooms_in objects)) o (next_multiple_of end object.align))
    (one (bytes_one object.name wanted.name is)) (record { behind = omega arith; aligned = even; before = grows }))
found_cases at index end otherwise object objects wanted false is some one here rest =
    let stands = rest is in record { behind = omega (arith, stands.behind); aligned = stands.aligned; before = stands.before }

pub found : (at : List ℕ) (index end otherwise : ℕ) (objects : List Placeable) → drop index at ≡ stated_from end (rooms_in objects) →
    AllAligned objects → AreNamed objects → (wanted : Placeable) → Contains objects wanted →
    Stands end (end_from end (rooms_in objects)) wanted (base_among at index wanted.name otherwise objects)
unfolding base_among
found at index end otherwise [] is aligned named wanted (k, within, at') = absurd (omega (arith, within))
found at index end otherwise (object ∷ objects) is aligned named wanted inside =
    let step = step_of at index _ _ is in
    found_cases at index end otherwise object objects wanted (pointwise nat_eq object.name wanted.name) refl
    (aligned object (first_in object objects)) (λ alike. named object wanted (first_in object objects) inside alike) step.0
    (λ apart. found at (index + 1) (next_multiple_of end object.align + object.size) otherwise objects step.1
    (λ other of_other. aligned other (later_in object objects other of_other)) (rest_named object objects named) wanted
    (in_rest object objects wanted inside apart))

-- No two of them overlap.

abbrev pub Clear : ℕ → Placeable → ℕ → Placeable → Type 0
Clear a one b other = (a + one.size ≤ b) ⊎ (b + other.size ≤ a)

-- the first object, and one of the rest
clear_first : (end : ℕ) (object one other : Placeable) (last first base : ℕ) → object ≡ one → first ≡ next_multiple_of end object.align →
    Stands (next_multiple_of end object.align + object.size) last other base → first + one.size ≤ base
clear_first end object one other last first base is here stands =
    subst (λ (o : Placeable). first + o.size ≤ base) is (let behind = stands.behind in omega arith)

clear_cases : (at : List ℕ) (index end otherwise : ℕ) (object : Placeable) (objects : List Placeable) (one other : Placeable) (b c : Bool) →
    pointwise nat_eq object.name one.name ≡ b → pointwise nat_eq object.name other.name ≡ c → one.name ≢ other.name →
    (object.name ≡ one.name → object ≡ one) → (object.name ≡ other.name → object ≡ other) →
    slice_index at index ≡ next_multiple_of end object.align →
    (pointwise nat_eq object.name one.name ≡ false → Stands (next_multiple_of end object.align + object.size)
    (end_from (next_multiple_of end object.align + object.size) (rooms_in objects)) one (base_among at (index + 1) one.name otherwise objects)) →
    (pointwise nat_eq object.name other.name ≡ false → Stands (next_multiple_of end object.align + object.size)
    (end_from (next_multiple_of end object.align + object.size) (rooms_in objects)) other (base_among at (index + 1) other.name otherwise objects)) →
    (pointwise nat_eq object.name one.name ≡ false → pointwise nat_eq object.name other.name ≡ false →
    Clear (base_among at (index + 1) one.name otherwise objects) one (base_among at (index + 1) other.name otherwise objects) other) →
    Clear (if b then slice_index at index else base_among at (index + 1) one.name otherwise objects) one
    (if c then slice_index at index else base_among at (index + 1) other.name otherwise objects) other
clear_cases at index end otherwise object objects one other true true is is' apart same same' here rest rest' both =
    absurd (apart (sym (bytes_one object.name one.name is) ∙ bytes_one object.name other.name is'))
clear_cases at index end otherwise object objects one other true false is is' apart same same' here rest rest' both =
    inl (clear_first end object one other _ (slice_index at index) _ (same (bytes_one object.name one.name is)) here (rest' is'))
clear_cases at index end otherwise object objects one other false true is is' apart same same' here rest rest' both =
    inr (clear_first end object other one _ (slice_index at index) _ (same' (bytes_one object.name other.name is')) here (rest is))
clear_cases at index end otherwise object objects one other false false is is' apart same same' here rest rest' both = both is is'

pub clear : (at : List ℕ) (index end otherwise : ℕ) (objects : List Placeable) → drop index at ≡ stated_from end (rooms_in objects) →
    AllAligned objects → AreNamed objects → (one other : Placeable) → Contains objects one → Contains objects other → one.name ≢ other.name →
    Clear (base_among at index one.name otherwise objects) one (base_among at index other.name otherwise objects) other
unfolding base_among
clear at index end otherwise [] is aligned named one other (k, within, at') of_other apart = absurd (omega (arith, within))
clear at index end otherwise (object ∷ objects) is aligned named one other of_one of_other apart =
    let step = step_of at index _ _ is in
    let fine : AllAligned objects = λ o of_o. aligned o (later_in object objects o of_o) in
    let few : AreNamed objects = rest_named object objects named in
    let end' : ℕ = next_multiple_of end object.align + object.size in
    clear_cases at index end otherwise object objects one other (pointwise nat_eq object.name one.name) (pointwise nat_eq object.name other.name) refl refl apart
    (λ alike. named object one (first_in object objects) of_one alike) (λ alike. named object other (first_in object objects) of_other alike) step.0
    (λ new. found at (index + 1) end' otherwise objects step.1 fine few one (in_rest object objects one of_one new))
    (λ new. found at (index + 1) end' otherwise objects step.1 fine few other (in_rest object objects other of_other new))
    (λ new new'. clear at (index + 1) end' otherwise objects step.1 fine few one other (in_rest object objects one of_one new)
    (in_rest object objects other of_other new') apart)

-- The objects in printed order are those of the output.

map_append : {X Y : Type 0} (f : X → Y) (xs ys : List X) → map f (xs ++ ys) ≡ map f xs ++ map f ys
map_append f [] ys = refl
map_append f (x ∷ xs) ys = ap (λ zs. f x ∷ zs) (map_append f xs ys)

map_map : {X Y Z : Type 0} (g : Y → Z) (f : X → Y) (xs : List X) → map g (map f xs) ≡ map (λ x. g (f x)) xs
map_map g f [] = refl
map_map g f (x ∷ xs) = ap (λ zs. g (f x) ∷ zs) (map_map g f xs)

rooms_printed : (m : Module) → rooms_in (printed m) ≡ rooms m
rooms_printed m =
    let ones : List Placeable = map of_function (functions_that true m.funcs) in
    let others : List Placeable = map of_function (functions_that false m.funcs) in
    map_append room_of (map of_variable m.vars) (map of_table m.jumps ++ (ones ++ others))
    ∙ ap (λ xs. xs ++ rooms_in (map of_table m.jumps ++ (ones ++ others))) (map_map room_of of_variable m.vars)
    ∙ ap (λ xs. map (λ v. room_of (of_variable v)) m.vars ++ xs)
    (map_append room_of (map of_table m.jumps) (ones ++ others) ∙ ap (λ xs. xs ++ rooms_in (ones ++ others)) (map_map room_of of_table m.jumps)
    ∙ ap (λ xs. map (λ t. room_of (of_table t)) m.jumps ++ xs)
    (map_append room_of ones others ∙ ap (λ xs. xs ++ rooms_in others) (map_map room_of of_function (functions_that true m.funcs))
    ∙ ap (λ xs. map (λ f. room_of (of_function f)) (functions_that true m.funcs) ++ xs) (map_map room_of of_function (functions_that false m.funcs))))

-- a function of those that are external, or of those that aren't, is one of all
one_of : (external : Bool) (fs : List Func) (object : Placeable) → Contains (map of_function (functions_that external fs)) object →
    Contains (map of_function fs) object
one_of external fs object at =
    let from = contains_map of_function (functions_that external fs) object at in
    let all = All-filter (λ f. same_flag (is_external f) external) (Contains fs) fs (All-contains_itself fs) in
    subst (Contains (map of_function fs)) from.2 (map_contains of_function fs from.0 (All-contains (Contains fs) _ from.0 all from.1))

flag_cases : (b : Bool) → (same_flag b true ≡ true) ⊎ (same_flag b false ≡ true)
flag_cases true = inl refl
flag_cases false = inr refl

passes_first : {X : Type 0} (p : X → Bool) (y x : X) (ys : List X) (b : Bool) → p y ≡ b → y ≡ x → p x ≡ true →
    Contains (if b then y ∷ filter p ys else filter p ys) x
passes_first p y x ys true is same fine = (0, omega arith, same)
passes_first p y x ys false is same fine = absurd_false (ap p same ∙ fine) is

passes_later : {X : Type 0} (y x : X) (ys : List X) (b : Bool) → Contains ys x → Contains (if b then y ∷ ys else ys) x
passes_later y x ys true (k, within, at) = (suc k, omega (arith, within), at)
passes_later y x ys false at = at

passes : {X : Type 0} (p : X → Bool) (xs : List X) (x : X) → Contains xs x → p x ≡ true → Contains (filter p xs) x
passes p [] x (k, within, at) fine = absurd (omega (arith, within))
passes p (y ∷ ys) x (zero, within, at) fine = passes_first p y x ys (p y) refl at fine
passes p (y ∷ ys) x (suc k, within, at) fine = passes_later y x (filter p ys) (p y) (passes p ys x (k, omega (arith, within), at) fine)

function_cases_in : (m : Module) (f : Func) → Contains m.funcs f → (same_flag (is_external f) true ≡ true) ⊎ (same_flag (is_external f) false ≡ true) →
    Contains (map of_function (functions_that true m.funcs) ++ map of_function (functions_that false m.funcs)) (of_function f)
function_cases_in m f at (inl fine) = Contains-append_left _ _ (of_function f)
    (map_contains of_function (functions_that true m.funcs) f (passes (λ g. same_flag (is_external g) true) m.funcs f at fine))
function_cases_in m f at (inr fine) = Contains-append_right (map of_function (functions_that true m.funcs)) _ (of_function f)
    (map_contains of_function (functions_that false m.funcs) f (passes (λ g. same_flag (is_external g) false) m.funcs f at fine))

function_in : (m : Module) (f : Func) → Contains m.funcs f →
    Contains (map of_function (functions_that true m.funcs) ++ map of_function (functions_that false m.funcs)) (of_function f)
function_in m f at = function_cases_in m f at (flag_cases (is_external f))

placeable_first : (m : Module) (object : Placeable) → Contains (map of_variable m.vars) object ⊎ Contains (map of_table m.jumps) object → Contains (printed m) object
placeable_first m object (inl at) = Contains-append_left (map of_variable m.vars) _ object at
placeable_first m object (inr at) = Contains-append_right (map of_variable m.vars) _ object (Contains-append_left (map of_table m.jumps) _ object at)

placeable_cases : (m : Module) (object : Placeable) →
    Contains (map of_variable m.vars ++ map of_table m.jumps) object ⊎ Contains (map of_function m.funcs) object → Contains (printed m) object
placeable_cases m object (inl at) = placeable_first m object (Contains-append_cases (map of_variable m.vars) (map of_table m.jumps) object at)
placeable_cases m object (inr at) =
    let from = contains_map of_function m.funcs object at in
    Contains-append_right (map of_variable m.vars) _ object (Contains-append_right (map of_table m.jumps) _ object
    (subst (Contains (map of_function (functions_that true m.funcs) ++ map of_function (functions_that false m.funcs))) from.2 (function_in m from.0 from.1)))

pub is_printed : (m : Module) (object : Placeable) → Contains (placeables m) object → Contains (printed m) object
is_printed m object at = placeable_cases m object (Contains-append_cases (map of_variable m.vars ++ map of_table m.jumps) (map of_function m.funcs) object at)

printed_function : (m : Module) (object : Placeable) →
    Contains (map of_function (functions_that true m.funcs)) object ⊎ Contains (map of_function (functions_that false m.funcs)) object →
    Contains (placeables m) object
printed_function m object (inl at) = Contains-append_right (map of_variable m.vars ++ map of_table m.jumps) _ object (one_of true m.funcs object at)
printed_function m object (inr at) = Contains-append_right (map of_variable m.vars ++ map of_table m.jumps) _ object (one_of false m.funcs object at)

printed_table : (m : Module) (object : Placeable) → Contains (map of_table m.jumps) object
    ⊎ Contains (map of_function (functions_that true m.funcs) ++ map of_function (functions_that false m.funcs)) object → Contains (placeables m) object
printed_table m object (inl at) = Contains-append_left _ (map of_function m.funcs) object (Contains-append_right (map of_variable m.vars) _ object at)
printed_table m object (inr at) = printed_function m object (Contains-append_cases (map of_function (functions_that true m.funcs)) _ object at)

printed_cases : (m : Module) (object : Placeable) →
    Contains (map of_variable m.vars) object ⊎ Contains (map of_table m.jumps ++
    (map of_function (functions_that true m.funcs) ++ map of_function (functions_that false m.funcs))) object → Contains (placeables m) object
printed_cases m object (inl at) = Contains-append_left _ (map of_function m.funcs) object (Contains-append_left _ (map of_table m.jumps) object at)
printed_cases m object (inr at) = printed_table m object (Contains-append_cases (map of_table m.jumps) _ object at)

pub is_placeable : (m : Module) (object : Placeable) → Contains (printed m) object → Contains (placeables m) object
is_placeable m object at = printed_cases m object (Contains-append_cases (map of_variable m.vars) _ object at)

-- The law.

-- where two items stand
order_more : (k j : ℕ) → (k < j) ⊎ ((j < k) ⊎ (k ≡ j)) → (suc k < suc j) ⊎ ((suc j < suc k) ⊎ (suc k ≡ suc j))
order_more k j (inl before) = inl (omega (arith, before))
order_more k j (inr (inl after)) = inr (inl (omega (arith, after)))
order_more k j (inr (inr same)) = inr (inr (ap suc same))

order : (k j : ℕ) → (k < j) ⊎ ((j < k) ⊎ (k ≡ j))
order zero zero = inr (inr refl)
order zero (suc j) = inl (omega arith)
order (suc k) zero = inr (inl (omega arith))
order (suc k) (suc j) = order_more k j (order k j)

position_cases : (objects : List Placeable) → AllPairs (λ one other. one.name ≢ other.name) objects → (one other : Placeable) (k j : ℕ) →
    k < length objects → j < length objects → get_or objects k one ≡ one → get_or objects j other ≡ other → one.name ≡ other.name →
    (k < j) ⊎ ((j < k) ⊎ (k ≡ j)) → one ≡ other
position_cases objects apart one other k j within within' at at' same (inl before) =
    absurd (apart k j one before within' (ap (λ (o : Placeable). o.name) at ∙ same ∙ ap (λ (o : Placeable). o.name) (sym at' ∙ get_or_default objects j other one within')))
position_cases objects apart one other k j within within' at at' same (inr (inl after)) =
    absurd (apart j k other after within (ap (λ (o : Placeable). o.name) at' ∙ sym same ∙ ap (λ (o : Placeable). o.name) (sym at ∙ get_or_default objects k one other within)))
position_cases objects apart one other k j within within' at at' same (inr (inr one_place)) =
    sym at ∙ get_or_default objects k one other within ∙ ap (λ n. get_or objects n other) one_place ∙ at'

positions : (objects : List Placeable) → AllPairs (λ one other. one.name ≢ other.name) objects → AreNamed objects
positions objects apart one other (k, within, at) (j, within', at') same = position_cases objects apart one other k j within within' at at' same (order k j)

all_aligned : (m : Module) → All (λ v. 1 ≤ v.align) m.vars → AllAligned (placeables m)
all_aligned m aligned object at = All-contains (λ o. 1 ≤ o.align) (placeables m) object
    (All-append (λ o. 1 ≤ o.align) _ _ (All-append (λ o. 1 ≤ o.align) _ _ (All-map (λ o. 1 ≤ o.align) of_variable m.vars aligned)
    (All-map (λ o. 1 ≤ o.align) of_table m.jumps (λ k d within. omega arith)))
    (All-map (λ o. 1 ≤ o.align) of_function m.funcs (λ k d within. omega arith))) at

-- where an object of the output stands
stands : (m : Module) (base : ℕ) → IsPlaceable m base → HaveNames m → (object : Placeable) → Contains (placeables m) object →
    Stands base (end_from base (rooms m)) object (placement_of m (stated m base) object.name)
stands m base can names object at =
    subst (λ place. Stands base (end_from base (rooms m)) object place) (sym (base_printed m (stated m base) object.name))
    (subst (λ rs. Stands base (end_from base rs) object (base_among (stated m base) 0 object.name 0 (printed m))) (rooms_printed m)
    (found (stated m base) 0 base 0 (printed m) (ap (stated_from base) (sym (rooms_printed m)))
    (λ o of_o. all_aligned m can.aligned o (is_placeable m o of_o))
    (λ one other of_one of_other. positions (placeables m) names one other (is_placeable m one of_one) (is_placeable m other of_other))
    object (is_printed m object at)))

stand_apart : (m : Module) (base : ℕ) → IsPlaceable m base → HaveNames m → (one other : Placeable) → Contains (placeables m) one →
    Contains (placeables m) other → one.name ≢ other.name → AreApart (placement_of m (stated m base)) one other
stand_apart m base can names one other of_one of_other apart =
    subst (λ a. (a + one.size ≤ placement_of m (stated m base) other.name) ⊎ (placement_of m (stated m base) other.name + other.size ≤ a))
    (sym (base_printed m (stated m base) one.name))
    (subst (λ b. (base_among (stated m base) 0 one.name 0 (printed m) + one.size ≤ b) ⊎ (b + other.size ≤ base_among (stated m base) 0 one.name 0 (printed m)))
    (sym (base_printed m (stated m base) other.name))
    (clear (stated m base) 0 base 0 (printed m) (ap (stated_from base) (sym (rooms_printed m)))
    (λ o of_o. all_aligned m can.aligned o (is_placeable m o of_o))
    (λ a b of_a of_b. positions (placeables m) names a b (is_placeable m a of_a) (is_placeable m b of_b))
    one other (is_printed m one of_one) (is_printed m other of_other) apart))

pub stated_law : StatedLaw
stated_law m base can names some = record {
  aligned = λ k d within. (stands m base can names (get_or (placeables m) k d) (Contains-get_or (placeables m) k d within)).aligned;
  not_null = λ k d within.
      let behind = (stands m base can names (get_or (placeables m) k d) (Contains-get_or (placeables m) k d within)).behind in omega arith;
  within = λ k d within.
      let before = (stands m base can names (get_or (placeables m) k d) (Contains-get_or (placeables m) k d within)).before in
      let fits = can.fits in omega arith;
  apart = λ i j d below within.
      stand_apart m base can names (get_or (placeables m) i d) (get_or (placeables m) j d)
      (Contains-get_or (placeables m) i d (omega arith)) (Contains-get_or (placeables m) j d within) (names i j d below within);
}
