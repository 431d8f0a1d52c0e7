-- The items of a thin file's module: what names denote, and where objects stand among them.
use Rattle.std.proofs.Common.{◌≡◌, ◌≢◌, ℕ, ◌+◌, ◌<◌, ◌≤◌, Bool, true, false, ◌&&◌, zero, suc, List, [], ◌∷◌, ◌++◌, map, length, Option, Some, None, option_map, refl, sym, ap, subst, ◌∙◌, slice_get, Contains, nat_eq, zero-add, add-zero, arith}
use Rattle.std.proofs.lemmas.Option.{slice_get-map}
use Rattle.std.specs.Prelude.{IfSome, if◌then◌else◌}
use Rattle.std.specs.Cmp.Lexicographic.{pointwise}
use Rattle.ir_values.specs.declared.modules.Linkage.TheVariants.{Private, Strong}
use Rattle.ir_values.specs.declared.modules.Entry.{Entry}
use Rattle.ir_values.specs.declared.modules.Module.{Module}
use Rattle.ir_values.specs.declared.modules.Var.{Var}
use Rattle.ir_values.specs.declared.modules.Func.{Func}
use Rattle.type_metadata.specs.declared.objects.Object.{Object}
use Rattle.type_metadata.specs.declared.objects.Denoted as answer
use Rattle.type_metadata.specs.declared.objects.Denoted.TheVariants as denotes
use Rattle.type_metadata.specs.declared.items.Item.{Item}
use Rattle.type_metadata.specs.Same.{same_object}
use Rattle.type_metadata.specs.Items.{variable_at, function_at, item_of_variable, item_of_function, variables_from, functions_from, items}
use Rattle.type_metadata.specs.Denoted.{first, is_own, is_called, item_or, denoted}
use Rattle.type_metadata.proofs.SameLaws.{object_one, object_same}
use Rattle.ir_memories.specs.Symbolic.{place_of as place_among}
use Rattle.thin_files.specs.declared.thin.Thin.{Thin}
use Rattle.thin_files.specs.declared.thin.Second.{Second}
use Rattle.thin_files.specs.declared.thin.Variable.{Variable}
use Rattle.thin_files.specs.Thin.{module_of, variable_of, function_of, second_functions, second_function}
use Rattle.test_lowering.specs.Rewriting.{object_from, object_of}
use Rattle.test_lowering.proofs.PlaceLaws.{contains_at, slice_get-append_left}

-- The first item that passes a test.

pub first_left : (test : Item → Bool) (xs ys : List Item) (object : Object) → first test xs ≡ Some object → first test (xs ++ ys) ≡ Some object
first_left test [] ys object is = cc
first_left test (x ∷ xs) ys object is = by_test (test x) is (first_left test xs ys object) where
  by_test : (b : Bool) → (if b then Some x.object else first test xs) ≡ Some object → (first test xs ≡ Some object → first test (xs ++ ys) ≡ Some object)
      → (if b then Some x.object else first test (xs ++ ys)) ≡ Some object
  by_test true is rest = is
  by_test false is rest = rest is

pub first_right : (test : Item → Bool) (xs ys : List Item) → first test xs ≡ None → first test (xs ++ ys) ≡ first test ys
first_right test [] ys is = refl
first_right test (x ∷ xs) ys is = by_test (test x) is (first_right test xs ys) where
  by_test : (b : Bool) → (if b then Some x.object else first test xs) ≡ None → (first test xs ≡ None → first test (xs ++ ys) ≡ first test ys)
      → (if b then Some x.object else first test (xs ++ ys)) ≡ first test ys
  by_test true is rest = cc
  by_test false is rest = rest is

-- the name of a variable denotes the first variable that has it
called_first : (group : ℕ) (vs : List Variable) (name : List ℕ) (k : ℕ) → object_from group (map variable_of vs) name ≡ Some k
    → first (is_called Strong name) (variables_from 1 group (map variable_of vs)) ≡ Some (variable_at 1 k)
called_first group [] name k is = cc
called_first group (v ∷ vs) name k is = by_name (pointwise nat_eq v.name name) is (called_first (group + 1) vs name k) where
  by_name : (b : Bool) → (if b then Some group else object_from (group + 1) (map variable_of vs) name) ≡ Some k
      → (object_from (group + 1) (map variable_of vs) name ≡ Some k → first (is_called Strong name) (variables_from 1 (group + 1) (map variable_of vs)) ≡ Some (variable_at 1 k))
      → (if b then Some (variable_at 1 group) else first (is_called Strong name) (variables_from 1 (group + 1) (map variable_of vs))) ≡ Some (variable_at 1 k)
  by_name true is rest = let same : group ≡ k = cc in ap (λ n. Some (variable_at 1 n)) same
  by_name false is rest = rest is

own_variables : (group : ℕ) (vs : List Variable) (name : List ℕ) → first (is_own 1 name) (variables_from 1 group (map variable_of vs)) ≡ None
own_variables group [] name = refl
own_variables group (v ∷ vs) name = own_variables (group + 1) vs name

own_functions : (t : Thin) (second : Option Second) (name : List ℕ) → first (is_own 1 name) (functions_from 1 0 (function_of t ∷ second_functions second)) ≡ None
own_functions t None name = refl
own_functions t (Some s) name = refl

abbrev pub variables_in : Thin → List Item
variables_in t = variables_from 1 0 (module_of t).vars

abbrev pub functions_in : Thin → List Item
functions_in t = functions_from 1 0 (module_of t).funcs

abbrev pub all_items : Thin → List Item
all_items t = items (module_of t ∷ [])

own_none : (t : Thin) (name : List ℕ) → first (is_own 1 name) (all_items t) ≡ None
own_none t name =
    first_right (is_own 1 name) (variables_in t ++ functions_in t) []
    (first_right (is_own 1 name) (variables_in t) (functions_in t) (own_variables 0 t.variables name) ∙ own_functions t t.second name)

pub denoted_variable : (t : Thin) (name : List ℕ) (k : ℕ) → object_of (module_of t) name ≡ Some k
    → denoted (all_items t) 1 name ≡ denotes.Item (variable_at 1 k)
denoted_variable t name k is =
    let strong : first (is_called Strong name) (all_items t) ≡ Some (variable_at 1 k) =
    first_left (is_called Strong name) (variables_in t ++ functions_in t) [] (variable_at 1 k)
    (first_left (is_called Strong name) (variables_in t) (functions_in t) (variable_at 1 k) (called_first 0 t.variables name k is)) in
    rw (own_none t name, strong) refl

-- Where a variable stands among the items.

not_true : (b : Bool) → (b ≡ true → ⊥) → b ≡ false
not_true true never = absurd (never refl)
not_true false never = refl

place_left : (object : Object) (at : ℕ) (xs ys : List Item) (k : ℕ) → place_among object at xs ≡ Some k → place_among object at (xs ++ ys) ≡ Some k
place_left object at [] ys k is = cc
place_left object at (x ∷ xs) ys k is = by_test (same_object x.object object) is (place_left object (at + 1) xs ys k) where
  by_test : (b : Bool) → (if b then Some at else place_among object (at + 1) xs) ≡ Some k
      → (place_among object (at + 1) xs ≡ Some k → place_among object (at + 1) (xs ++ ys) ≡ Some k)
      → (if b then Some at else place_among object (at + 1) (xs ++ ys)) ≡ Some k
  by_test true is rest = is
  by_test false is rest = rest is

place_of_variable : (at group : ℕ) (vs : List Variable) (k : ℕ) (v : Variable) → slice_get vs k ≡ Some v
    → place_among (variable_at 1 (group + k)) at (variables_from 1 group (map variable_of vs)) ≡ Some (at + k)
place_of_variable at group [] k v is = cc
place_of_variable at group (u ∷ vs) zero v is =
    let here : same_object (variable_at 1 group) (variable_at 1 (group + 0)) ≡ true =
    object_same (variable_at 1 group) (variable_at 1 (group + 0)) (ap (variable_at 1) (sym (add-zero group))) in
    rw here (ap Some (sym (add-zero at)))
place_of_variable at group (u ∷ vs) (suc k) v is =
    let other : same_object (variable_at 1 group) (variable_at 1 (group + suc k)) ≡ false =
    not_true (same_object (variable_at 1 group) (variable_at 1 (group + suc k)))
    (λ same. never_after group k (ap (λ (o : Object). o.index) (object_one (variable_at 1 group) (variable_at 1 (group + suc k)) same))) in
    let next : group + 1 + k ≡ group + suc k = omega arith in
    let after : at + 1 + k ≡ at + suc k = omega arith in
    rw other (subst (λ n. place_among (variable_at 1 n) (at + 1) (variables_from 1 (group + 1) (map variable_of vs)) ≡ Some (at + suc k)) next
    (place_of_variable (at + 1) (group + 1) vs k v is ∙ ap Some after)) where
      never_after : (group k : ℕ) → group ≡ group + suc k → ⊥
      never_after group k same = omega arith

pub variable_place : (t : Thin) (k : ℕ) (v : Variable) → slice_get t.variables k ≡ Some v → place_among (variable_at 1 k) 0 (all_items t) ≡ Some k
variable_place t k v is =
    let here : place_among (variable_at 1 k) 0 (variables_in t) ≡ Some k =
    subst (λ n. place_among (variable_at 1 n) 0 (variables_in t) ≡ Some n) (zero-add k) (place_of_variable 0 0 t.variables k v is) in
    place_left (variable_at 1 k) 0 (variables_in t ++ functions_in t) [] k (place_left (variable_at 1 k) 0 (variables_in t) (functions_in t) k here)

item_at : (group : ℕ) (vs : List Variable) (k : ℕ) (v : Variable) → slice_get vs k ≡ Some v
    → slice_get (variables_from 1 group (map variable_of vs)) k ≡ Some (item_of_variable (variable_at 1 (group + k)) (variable_of v))
item_at group [] k v is = cc
item_at group (u ∷ vs) zero v is = let same : u ≡ v = cc in rw (same, add-zero) refl
item_at group (u ∷ vs) (suc k) v is = let next : group + 1 + k ≡ group + suc k = omega arith in rw (item_at (group + 1) vs k v is, next) refl

pub variable_item : (t : Thin) (k : ℕ) (v : Variable) → slice_get t.variables k ≡ Some v
    → Contains (all_items t) (item_of_variable (variable_at 1 k) (variable_of v))
variable_item t k v is =
    let item = item_of_variable (variable_at 1 k) (variable_of v) in
    let here : slice_get (variables_in t) k ≡ Some item =
    item_at 0 t.variables k v is ∙ ap (λ n. Some (item_of_variable (variable_at 1 n) (variable_of v))) (zero-add k) in
    contains_at (all_items t) item k
    (slice_get-append_left (variables_in t ++ functions_in t) [] k item (slice_get-append_left (variables_in t) (functions_in t) k item here))

-- An item that is a variable's object says what the variable does.

abbrev pub AreFunctions : List Item → Type 0
AreFunctions items = (n : ℕ) (item : Item) → slice_get items n ≡ Some item → item.object.function ≡ true

function_items : (at : ℕ) (fs : List Func) → AreFunctions (functions_from 1 at fs ++ [])
function_items at [] n item is = cc
function_items at (f ∷ fs) zero item is = ap (λ (i : Item). i.object.function) (some_one (item_of_function (function_at 1 at) f) item (sym is)) where
  some_one : (one other : Item) → Some other ≡ Some one → other ≡ one
  some_one one other same = cc
function_items at (f ∷ fs) (suc n) item is = function_items (at + 1) fs n item is

later_index : (group : ℕ) (vs : List Variable) (rest : List Item) → AreFunctions rest → (n : ℕ) (item : Item)
    → slice_get (variables_from 1 group (map variable_of vs) ++ rest) n ≡ Some item → (k : ℕ) → item.object ≡ variable_at 1 k → group ≤ k
later_index group [] rest functions n item is k same =
    let flag : false ≡ true = sym (ap (λ (o : Object). o.function) same) ∙ functions n item is in absurd (cc)
later_index group (v ∷ vs) rest functions zero item is k same =
    let one : item_of_variable (variable_at 1 group) (variable_of v) ≡ item = cc in
    let index : group ≡ k = ap (λ (i : Item). i.object.index) one ∙ ap (λ (o : Object). o.index) same in omega arith
later_index group (v ∷ vs) rest functions (suc n) item is k same =
    let more : group + 1 ≤ k = later_index (group + 1) vs rest functions n item is k same in omega arith

entries_at : (group : ℕ) (vs : List Variable) (rest : List Item) → AreFunctions rest → (n : ℕ) (item : Item)
    → slice_get (variables_from 1 group (map variable_of vs) ++ rest) n ≡ Some item → (k : ℕ) (v : Variable) → slice_get vs k ≡ Some v
    → item.object ≡ variable_at 1 (group + k) → item.entries ≡ (variable_of v).entries
entries_at group [] rest functions n item is k v at same = cc
entries_at group (u ∷ vs) rest functions zero item is zero v at same =
    let one : item_of_variable (variable_at 1 group) (variable_of u) ≡ item = cc in
    let variable : u ≡ v = cc in
    sym (ap (λ (i : Item). i.entries) one) ∙ ap (λ (w : Variable). (variable_of w).entries) variable
entries_at group (u ∷ vs) rest functions zero item is (suc k) v at same =
    let one : item_of_variable (variable_at 1 group) (variable_of u) ≡ item = cc in
    let index : group ≡ group + suc k = ap (λ (i : Item). i.object.index) one ∙ ap (λ (o : Object). o.index) same in absurd (omega arith)
entries_at group (u ∷ vs) rest functions (suc n) item is zero v at same =
    let more : group + 1 ≤ group + 0 = later_index (group + 1) vs rest functions n item is (group + 0) same in absurd (omega arith)
entries_at group (u ∷ vs) rest functions (suc n) item is (suc k) v at same =
    let next : group + suc k ≡ group + 1 + k = omega arith in
    entries_at (group + 1) vs rest functions n item is k v at (same ∙ ap (variable_at 1) next)

append_again : (xs ys zs : List Item) → (xs ++ ys) ++ zs ≡ xs ++ (ys ++ zs)
append_again [] ys zs = refl
append_again (x ∷ xs) ys zs = ap (λ rest. x ∷ rest) (append_again xs ys zs)

pub variable_entries : (t : Thin) (n : ℕ) (item : Item) → slice_get (all_items t) n ≡ Some item → (k : ℕ) (v : Variable) → slice_get t.variables k ≡ Some v
    → item.object ≡ variable_at 1 k → item.entries ≡ (variable_of v).entries
variable_entries t n item is k v at same =
    entries_at 0 t.variables (functions_in t ++ []) (function_items 0 (module_of t).funcs) n item
    (ap (λ (all : List Item). slice_get all n) (sym (append_again (variables_in t) (functions_in t) [])) ∙ is) k v at
    (same ∙ ap (variable_at 1) (sym (zero-add k)))
