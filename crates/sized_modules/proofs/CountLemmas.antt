-- The variables and functions of a file without flaws are few.
use Rattle.std.proofs.Common.{◌≡◌, refl, ◌∙◌, ap, sym, subst, ℕ, zero, suc, ◌+◌, ◌≤◌, ◌<◌, Bool, true, false, not, cond, ◌&&◌, nat_le, List, [], ◌∷◌, length, take, get_or, slice_get, inl, inr, Some, None, arith, take_all, le_refl}
use Rattle.std.specs.Prelude.{count_by, flat_map, codes}
use Rattle.std.specs.List.{sum_by}
use Rattle.std.proofs.Math.Path.{fun_ext}
use Rattle.std.proofs.lemmas.List.{length-append}
use Rattle.std.proofs.lemmas.List.Concat.{length-flat_map}
use Rattle.std.proofs.lemmas.List.Sums.{count_by_more_no, count_by_more_yes, sum_by-cons}
use Rattle.std.proofs.lemmas.Option.{slice_get-get_or, slice_get_cases}
use Rattle.ltt_base.specs.declared.refusal.Code.TheVariants.{E12}
use Rattle.ltt_base.specs.declared.refusal.Place.{Place}
use Rattle.ltt_base.specs.declared.refusal.Placed.{Placed}
use Rattle.ir_values.specs.declared.units.Unit.{Unit as TheUnit}
use Rattle.ir_values.specs.declared.units.Head.{Head}
use Rattle.ir_values.specs.declared.units.Form.{Form}
use Rattle.ir_values.specs.declared.units.Form.TheVariants.{VariableForm, DeclareForm, DefineForm}
use Rattle.check_names.specs.Flaws.{◌then◌}
use Rattle.check_names.specs.Reserved.{is_intrinsic}
use Rattle.check_items.specs.Counts.{is_variable, is_function, counts_before, variables_flaw, functions_flaw}
use Rattle.check_items.specs.Functions.{declare_flaw, define_flaw}
use Rattle.check_items.specs.Items.{item_flaw, limits_flaw}
use Rattle.check_items.specs.Variables.{variable_flaw}
use Rattle.built_modules.specs.Modules.{module_of}
use Rattle.built_modules.specs.Variables.{vars_in, vars_at}
use Rattle.built_modules.specs.Functions.{declared, funcs_in, funcs_from}
use Rattle.ir_check.specs.Answers.{IsClean}
use Rattle.type_metadata.specs.Counted.{IsCounted}
use Rattle.sized_modules.proofs.FlawLemmas.{none_first, unbroken_word, clash}
use Rattle.sized_modules.proofs.UnitLemmas.{Units, clean_item}

-- before each item that counts, fewer than so many do
abbrev AreFew : {X : Type 0} → (X → Bool) → ℕ → List X → Type 0
AreFew {X} p most xs = (at : ℕ) (x : X) → slice_get xs at ≡ Some x → p x ≡ true → count_by p (take at xs) < most

more_few : {X : Type 0} (p : X → Bool) (most : ℕ) (xs : List X) → AreFew p most xs → (n : ℕ) (d : X) → n < length xs → count_by p (take n xs) ≤ most
    → (counts : Bool) → p (get_or xs n d) ≡ counts → count_by p (take (n + 1) xs) ≤ most
more_few p most xs few n d low before true is =
    let fewer = few n (get_or xs n d) (slice_get-get_or xs n d low) is in
    let more = count_by_more_yes p xs n d low is in
    omega (arith, fewer, more)
more_few p most xs few n d low before false is =
    let same = count_by_more_no p xs n d low is in
    omega (arith, same, before)

few_to : {X : Type 0} (p : X → Bool) (most : ℕ) (xs : List X) → AreFew p most xs → (n : ℕ) → n ≤ length xs → count_by p (take n xs) ≤ most
few_to p most xs few zero low = omega arith
few_to p most xs few (suc n) low =
    let before = few_to p most xs few n (omega (arith, low)) in
    let next : n + 1 ≡ suc n = omega arith in
    elim ((slice_get_cases xs n).1) as (λ _. count_by p (take (suc n) xs) ≤ most) [
      | inl found ↦ subst (λ m. count_by p (take m xs) ≤ most) next (more_few p most xs few n found.0 found.1 before (p (get_or xs n found.0)) refl)
      | inr past ↦ absurd (let end = past.0 in omega (arith, end, low))
    ]

-- no more items count
few_all : {X : Type 0} (p : X → Bool) (most : ℕ) (xs : List X) → AreFew p most xs → count_by p xs ≤ most
few_all p most xs few =
    subst (λ ys. count_by p ys ≤ most) (take_all (length xs) xs (le_refl (length xs))) (few_to p most xs few (length xs) (le_refl (length xs)))

-- before a variable of a file without flaws there are fewer than 65,536
variables_few : (us : Units) → IsClean false us → (at : ℕ) (u : Placed TheUnit) → slice_get us at ≡ Some u → (form : Form) → u.value.form ≡ form
    → is_variable form ≡ true → nat_le 65536 (counts_before us at).variables ≡ false
unfolding item_flaw
variables_few us clean at u here (VariableForm name linkage constant ty init align attached) is counts =
    let form = VariableForm name linkage constant ty init align attached in
    let before = counts_before us at in
    let none : item_flaw false us at form ≡ None = clean_item false us at u form clean here is (λ spot. refl) in
    let rest = variable_flaw false us at name linkage ty init align attached then limits_flaw us at before form in
    unbroken_word (nat_le 65536 before.variables) E12 (codes "variables") (none_first (variables_flaw before) rest none)
variables_few us clean at u here _ is counts = clash false counts refl

counted_few : (counts many : Bool) → counts ≡ true → counts && many ≡ false → many ≡ false
counted_few counts many is none = grind arith

-- and before a function fewer functions
functions_few : (us : Units) → IsClean false us → (at : ℕ) (u : Placed TheUnit) → slice_get us at ≡ Some u → (form : Form) → u.value.form ≡ form
    → is_function form ≡ true → nat_le 65536 (counts_before us at).functions ≡ false
unfolding item_flaw
functions_few us clean at u here (DeclareForm head) is counts =
    let before = counts_before us at in
    let none : item_flaw false us at (DeclareForm head) ≡ None = clean_item false us at u (DeclareForm head) clean here is (λ spot. refl) in
    let rest = declare_flaw false us at head (DeclareForm head) in
    counted_few (is_function (DeclareForm head)) (nat_le 65536 before.functions) counts
    (unbroken_word (is_function (DeclareForm head) && nat_le 65536 before.functions) E12 (codes "functions") (none_first (functions_flaw before (DeclareForm head)) rest none))
functions_few us clean at u here (DefineForm head) is counts =
    let before = counts_before us at in
    let none : item_flaw false us at (DefineForm head) ≡ None = clean_item false us at u (DefineForm head) clean here is (λ spot. refl) in
    let rest = define_flaw false us at head (DefineForm head) then limits_flaw us at before (DefineForm head) in
    unbroken_word (nat_le 65536 before.functions) E12 (codes "functions") (none_first (functions_flaw before (DefineForm head)) rest none)
functions_few us clean at u here _ is counts = clash false counts refl

below : (n m : ℕ) → nat_le m n ≡ false → n < m
below n m is = grind arith

one_variable : (us : Units) (file : ℕ) (place : Place) (form : Form) → length (vars_in false us file place form) ≡ cond (is_variable form) 1 0
one_variable us file place (VariableForm name linkage constant ty init align attached) = refl
one_variable us file place _ = refl

-- a module has a variable for each unit that is one
variable_count : (us : Units) (file : ℕ) → length (flat_map (vars_at false us file) us) ≡ count_by (λ u. is_variable u.value.form) us
variable_count us file =
    length-flat_map (vars_at false us file) us
    ∙ ap (λ f. sum_by f us) (fun_ext (λ (u : Placed TheUnit). one_variable us file u.place u.value.form))

one_declared : (us : Units) (place : Place) (head : Head) (intrinsic : Bool)
    → length (cond intrinsic [] (declared us place head ∷ [])) ≡ cond (not intrinsic) 1 0
one_declared us place head true = refl
one_declared us place head false = refl

one_function : (us : Units) (file at : ℕ) (place : Place) (form : Form) → length (funcs_in false us file at place form) ≡ cond (is_function form) 1 0
one_function us file at place (DeclareForm head) = one_declared us place head (is_intrinsic head.name)
one_function us file at place (DefineForm head) = refl
one_function us file at place _ = refl

-- and a function for each unit that declares or defines one
function_count : (us : Units) (file at : ℕ) (vs : Units) → length (funcs_from false us file at vs) ≡ count_by (λ u. is_function u.value.form) vs
unfolding funcs_from
function_count us file at [] = refl
function_count us file at (v ∷ vs) =
    let one = one_function us file at v.place v.value.form in
    let rest = function_count us file (at + 1) vs in
    let joined = length-append (funcs_in false us file at v.place v.value.form) (funcs_from false us file (at + 1) vs) in
    joined ∙ ap (λ n. n + length (funcs_from false us file (at + 1) vs)) one ∙ ap (λ n. cond (is_function v.value.form) 1 0 + n) rest
    ∙ sym (sum_by-cons (λ u. cond (is_function u.value.form) 1 0) v vs)

-- a file without flaws has no more variables and functions than can be counted
pub clean_are_counted : (us : Units) (file : ℕ) → IsClean false us → IsCounted (module_of false us file)
unfolding module_of
clean_are_counted us file clean =
    let variables = few_all (λ u. is_variable u.value.form) 65536 us
    (λ at u here counts. below (counts_before us at).variables 65536 (variables_few us clean at u here u.value.form refl counts)) in
    let functions = few_all (λ u. is_function u.value.form) 65536 us
    (λ at u here counts. below (counts_before us at).functions 65536 (functions_few us clean at u here u.value.form refl counts)) in
    let vars = variable_count us file in
    let funcs = function_count us file 0 us in
    record { variables = omega (arith, variables, vars); functions = omega (arith, functions, funcs) }
