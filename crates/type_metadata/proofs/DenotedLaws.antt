-- What a name denotes, looked for module by module.
use Rattle.std.proofs.Common.{◌≡◌, ◌∙◌, ℕ, ◌+◌, Bool, true, false, ◌&&◌, List, [], ◌∷◌, ◌++◌, refl, sym, ap, arith, Some, None, ◌≢◌, ◌<◌, length, drop, get_or}
use Rattle.std.proofs.lemmas.List.{at_drop_more}
use Rattle.std.specs.Prelude.{nat_eq, if◌then◌else◌}
use Rattle.std.specs.Option.{option_or}
use Rattle.ir_values.specs.declared.modules.Linkage.TheVariants.{Private}
use Rattle.ir_values.specs.declared.modules.Var.{Var}
use Rattle.ir_values.specs.declared.modules.Func.{Func}
use Rattle.ir_values.specs.declared.modules.Module.{Module}
use Rattle.type_metadata.specs.declared.objects.Object.{Object}
use Rattle.type_metadata.specs.declared.items.Item.{Item}
use Rattle.type_metadata.specs.Items.{variable_at, function_at, item_of_variable, item_of_function, variables_from, functions_from, items_in, items_from}
use Rattle.type_metadata.specs.Denoted.{first, is_own, is_called}

first_test : (test : Item → Bool) (item : Item) (xs ys : List Item) (b : Bool) →
    first test (xs ++ ys) ≡ option_or (first test xs) (first test ys) →
    (if b then Some item.object else first test (xs ++ ys)) ≡ option_or (if b then Some item.object else first test xs) (first test ys)
first_test test item xs ys true rest = refl
first_test test item xs ys false rest = rest

pub first_append : (test : Item → Bool) (xs ys : List Item) → first test (xs ++ ys) ≡ option_or (first test xs) (first test ys)
first_append test [] ys = refl
first_append test (item ∷ xs) ys = first_test test item xs ys (test item) (first_append test xs ys)

step : (test other : Item → Bool) (item : Item) (items : List Item) → test item ≡ other item → first test items ≡ first other items →
    first test (item ∷ items) ≡ first other (item ∷ items)
step test other item items here rest =
    ap (λ b. if b then Some item.object else first test items) here ∙ ap (λ r. if other item then Some item.object else r) rest

pub never : Item → Bool
never item = false

pub none_first : (items : List Item) → first never items ≡ None
unfolding never
none_first [] = refl
none_first (item ∷ items) = none_first items

equal_files : (file : ℕ) (b : Bool) → (nat_eq file file && b) ≡ b
equal_files file b = let one : nat_eq file file ≡ true = grind arith in ap (λ t. t && b) one

other_files : (file other : ℕ) (b : Bool) → file ≢ other → (nat_eq file other && b) ≡ false
other_files file other b apart = let two : nat_eq file other ≡ false = grind arith in ap (λ t. t && b) two

own_variables : (file index : ℕ) (name : List ℕ) (vs : List Var) →
    first (is_own file name) (variables_from file index vs) ≡ first (is_called Private name) (variables_from file index vs)
own_variables file index name [] = refl
own_variables file index name (v ∷ vs) = step (is_own file name) (is_called Private name) (item_of_variable (variable_at file index) v) (variables_from file (index + 1) vs)
    (equal_files file _) (own_variables file (index + 1) name vs)

own_functions : (file index : ℕ) (name : List ℕ) (fs : List Func) →
    first (is_own file name) (functions_from file index fs) ≡ first (is_called Private name) (functions_from file index fs)
own_functions file index name [] = refl
own_functions file index name (f ∷ fs) = step (is_own file name) (is_called Private name) (item_of_function (function_at file index) f) (functions_from file (index + 1) fs)
    (equal_files file _) (own_functions file (index + 1) name fs)

other_variables : (file other index : ℕ) (name : List ℕ) (vs : List Var) → file ≢ other →
    first (is_own other name) (variables_from file index vs) ≡ first never (variables_from file index vs)
unfolding never
other_variables file other index name [] apart = refl
other_variables file other index name (v ∷ vs) apart = step (is_own other name) never (item_of_variable (variable_at file index) v) (variables_from file (index + 1) vs)
    (other_files file other _ apart) (other_variables file other (index + 1) name vs apart)

other_functions : (file other index : ℕ) (name : List ℕ) (fs : List Func) → file ≢ other →
    first (is_own other name) (functions_from file index fs) ≡ first never (functions_from file index fs)
unfolding never
other_functions file other index name [] apart = refl
other_functions file other index name (f ∷ fs) apart = step (is_own other name) never (item_of_function (function_at file index) f) (functions_from file (index + 1) fs)
    (other_files file other _ apart) (other_functions file other (index + 1) name fs apart)

pub first_own : (file : ℕ) (name : List ℕ) (m : Module) →
    first (is_own file name) (items_in file m) ≡ first (is_called Private name) (items_in file m)
first_own file name m =
    first_append (is_own file name) (variables_from file 0 m.vars) (functions_from file 0 m.funcs)
    ∙ ap (λ r. option_or r (first (is_own file name) (functions_from file 0 m.funcs))) (own_variables file 0 name m.vars)
    ∙ ap (option_or (first (is_called Private name) (variables_from file 0 m.vars))) (own_functions file 0 name m.funcs)
    ∙ sym (first_append (is_called Private name) (variables_from file 0 m.vars) (functions_from file 0 m.funcs))

pub first_other : (file other : ℕ) (name : List ℕ) (m : Module) → file ≢ other → first (is_own other name) (items_in file m) ≡ None
first_other file other name m apart =
    first_append (is_own other name) (variables_from file 0 m.vars) (functions_from file 0 m.funcs)
    ∙ ap (λ r. option_or r (first (is_own other name) (functions_from file 0 m.funcs)))
    (other_variables file other 0 name m.vars apart ∙ none_first (variables_from file 0 m.vars))
    ∙ other_functions file other 0 name m.funcs apart ∙ none_first (functions_from file 0 m.funcs)

-- The first of two lists has it, or hasn't.

pub first_found : (test : Item → Bool) (xs ys : List Item) (object : Object) → Some object ≡ first test xs → Some object ≡ first test (xs ++ ys)
first_found test xs ys object found = ap (λ r. option_or r (first test ys)) found ∙ sym (first_append test xs ys)

pub first_missed : (test : Item → Bool) (xs ys : List Item) → None ≡ first test xs → first test ys ≡ first test (xs ++ ys)
first_missed test xs ys missed = ap (λ r. option_or r (first test ys)) missed ∙ sym (first_append test xs ys)

-- the same where a loop has come to a module
pub items_more : (ms : List Module) (at : ℕ) (m : Module) → at < length ms → m ≡ get_or ms at m →
    items_from (at + 1) (drop at ms) ≡ items_in (at + 1) m ++ items_from (at + 1 + 1) (drop (at + 1) ms)
items_more ms at m within here = at_drop_more (items_from (at + 1)) ms at m within
    ∙ ap (λ (one : Module). items_in (at + 1) one ++ items_from (at + 1 + 1) (drop (at + 1) ms)) (sym here)

pub loop_found : (test : Item → Bool) (ms : List Module) (at : ℕ) (m : Module) (object : Object) → at < length ms → m ≡ get_or ms at m →
    Some object ≡ first test (items_in (at + 1) m) → Some object ≡ first test (items_from (at + 1) (drop at ms))
loop_found test ms at m object within here found =
    first_found test (items_in (at + 1) m) (items_from (at + 1 + 1) (drop (at + 1) ms)) object found
    ∙ ap (first test) (sym (items_more ms at m within here))

pub loop_missed : (test : Item → Bool) (ms : List Module) (at : ℕ) (m : Module) → at < length ms → m ≡ get_or ms at m →
    None ≡ first test (items_in (at + 1) m) → first test (items_from (at + 1 + 1) (drop (at + 1) ms)) ≡ first test (items_from (at + 1) (drop at ms))
loop_missed test ms at m within here missed =
    first_missed test (items_in (at + 1) m) (items_from (at + 1 + 1) (drop (at + 1) ms)) missed
    ∙ ap (first test) (sym (items_more ms at m within here))
