-- Where units say what the lines of a printed module say, each name that a call may have is that of one unit.
use Rattle.std.proofs.Common.{◌≡◌, refl, ◌∙◌, ap, sym, subst, true≢false, ℕ, Bool, true, false, not, nat_eq, cond, if◌then◌else◌, ◌||◌, ◌&&◌, List, [], ◌∷◌, ◌++◌, map, Option, Some, None, inl, inr, ◌⊎◌, append_assoc, append-nil, arith}
use Rattle.std.specs.Prelude.{flat_map, find}
use Rattle.std.specs.List.{list_any, AllByRecursion}
use Rattle.std.specs.Str.{bytes_eq}
use Rattle.std.specs.Cmp.Lexicographic.{bytes_decides}
use Rattle.std.proofs.lemmas.List.Folds.{list_any-append}
use Rattle.std.proofs.lemmas.Option.{none-some, same_Some}
use Rattle.unit_grammar.proofs.BoolLemmas.{and_both, or_neither, or_second}
use Rattle.ltt_base.specs.declared.refusal.Placed.{Placed}
use Rattle.ir_values.specs.declared.modules.Func.{Func}
use Rattle.ir_values.specs.declared.modules.Var.{Var}
use Rattle.ir_values.specs.declared.modules.Jump.{Jump}
use Rattle.ir_values.specs.declared.modules.Module.{Module}
use Rattle.ir_values.specs.declared.units.Unit.{Unit as TheUnit}
use Rattle.ir_values.specs.declared.units.Head.{Head}
use Rattle.ir_values.specs.declared.units.Form.{Form}
use Rattle.ir_values.specs.declared.units.Form.TheVariants as form
use Rattle.ir_print.specs.declared.intrinsics.Intrinsic.{Intrinsic}
use Rattle.ir_print.specs.ModuleText.{is_called}
use Rattle.check_names.specs.declared.spaces.Space.TheVariants.{Globals}
use Rattle.check_names.specs.Reserved.{is_intrinsic}
use Rattle.check_names.specs.Spaces.{global_of, is_named, first_unit}
use Rattle.kept_parts.specs.Called.{function_head, unit_function, function_of}
use Rattle.printed_units.specs.Said.{var_said, table_said, head_said, define_said, intrinsic_said}
use Rattle.printed_units.specs.Lines.{forms_of}
use Rattle.printed_modules.specs.Printed.{intrinsic_name, called_names, intrinsics_of, is_called_name, is_function, is_declared, AreApart, IsPrinted}
use Rattle.printed_modules.proofs.Callees.{HasFunction, HasIntrinsic, Knows}
use Rattle.printed_modules.proofs.TypeKept.{Units}
use Rattle.printed_modules.proofs.ModuleForms.{forms, body_forms, forms_when, is_defined, declare_head, declare_of, define_head, declared_forms, defined_forms, called_forms, intrinsics_forms, functions_forms, code_forms, parts_of, forms_are, IsInner, body_inner}

-- texts

same_text : (xs ys : List ℕ) → bytes_eq xs ys ≡ true → xs ≡ ys
same_text xs ys is = (bytes_decides xs ys).0 is

own_text : (xs : List ℕ) → bytes_eq xs xs ≡ true
own_text xs = (bytes_decides xs xs).1 refl

-- the first form that defines a global of a name

abbrev names : List ℕ → Form → Bool
names name says = is_named name (global_of says)

abbrev first_form : List ℕ → List Form → Option Form
first_form name says = find (names name) says

behind_others : (name : List ℕ) (says others : List Form) → list_any (names name) says ≡ false
    → first_form name (says ++ others) ≡ first_form name others
behind_others name [] others none = refl
behind_others name (one ∷ says) others none =
    elim (names name one) as (λ b. b || list_any (names name) says ≡ false
    → cond b (Some one) (first_form name (says ++ others)) ≡ first_form name others) [
      | true ↦ λ some. absurd (true≢false some)
      | false ↦ λ rest. behind_others name says others rest
    ] none

abbrev form_function : Option Form → Option Head
form_function None = None
form_function (Some says) = function_head says

function_is : (us : Units) (name : List ℕ) → function_of us name ≡ form_function (first_form name (forms us))
function_is [] name = refl
function_is (u ∷ us) name =
    elim (names name u.value.form) as (λ b. unit_function (cond b (Some u) (first_unit Globals name us))
    ≡ form_function (cond b (Some u.value.form) (first_form name (forms us)))) [
      | true ↦ refl
      | false ↦ function_is us name
    ]

-- the first unit says the first form
pub record SaidBy (name : List ℕ) (us : Units) (says : Form) : Type 0 where
  pub u : Placed TheUnit
  pub first : first_unit Globals name us ≡ Some u
  pub is : u.value.form ≡ says

unit_step : (u : Placed TheUnit) (us : Units) (name : List ℕ) (says : Form) → (first_form name (forms us) ≡ Some says → SaidBy name us says)
    → (b : Bool) → names name u.value.form ≡ b → cond b (Some u.value.form) (first_form name (forms us)) ≡ Some says → SaidBy name (u ∷ us) says
unit_step u us name says rest true here is =
    record { u = u; first = ap (λ b. cond b (Some u) (first_unit Globals name us)) here; is = same_Some u.value.form says is }
unit_step u us name says rest false here is =
    let later = rest is in
    record { u = later.u; first = ap (λ b. cond b (Some u) (first_unit Globals name us)) here ∙ later.first; is = later.is }

unit_is : (us : Units) (name : List ℕ) (says : Form) → first_form name (forms us) ≡ Some says → SaidBy name us says
unit_is [] name says is = absurd (none-some says is)
unit_is (u ∷ us) name says is = unit_step u us name says (unit_is us name says) (names name u.value.form) refl is

-- lists in which something is or isn't

any_mapped : {X Y : Type 0} (p : Y → Bool) (f : X → Y) (xs : List X) → list_any p (map f xs) ≡ list_any (λ x. p (f x)) xs
any_mapped p f [] = refl
any_mapped p f (x ∷ xs) = ap (λ b. p (f x) || b) (any_mapped p f xs)

any_flat : {X Y : Type 0} (p : Y → Bool) (f : X → List Y) (xs : List X) → list_any p (flat_map f xs) ≡ list_any (λ x. list_any p (f x)) xs
any_flat p f [] = refl
any_flat p f (x ∷ xs) = list_any-append p (f x) (flat_map f xs) ∙ ap (λ b. list_any p (f x) || b) (any_flat p f xs)

none_of : {X : Type 0} (P : X → Type 0) (p : X → Bool) → ((x : X) → P x → p x ≡ false) → (xs : List X) → AllByRecursion P xs
    → list_any p xs ≡ false
none_of P p fails [] all = refl
none_of P p fails (x ∷ xs) all = λ i. fails x all.0 i || none_of P p fails xs all.1 i

none_joined : {X : Type 0} (p : X → Bool) (xs ys : List X) → list_any p xs ≡ false → list_any p ys ≡ false → list_any p (xs ++ ys) ≡ false
none_joined p xs ys none others = list_any-append p xs ys ∙ (λ i. none i || others i)

none_when : (p : Form → Bool) (b : Bool) (says : List Form) → (b ≡ true → list_any p says ≡ false) → list_any p (forms_when b says) ≡ false
none_when p true says none = none refl
none_when p false says none = refl

parted : {X : Type 0} (p : X → Bool) (xs ys : List X) → list_any p (xs ++ ys) ≡ false → (list_any p xs ≡ false) × (list_any p ys ≡ false)
parted p xs ys none = or_neither (list_any p xs) (list_any p ys) (sym (list_any-append p xs ys) ∙ none)

-- the forms of a body define no global

inner_global : (says : Form) → IsInner says → global_of says ≡ None
inner_global (form.VariableForm name linkage constant ty init align attached) is = absurd (true≢false (sym is))
inner_global (form.DeclareForm head) is = absurd (true≢false (sym is))
inner_global (form.DefineForm head) is = absurd (true≢false (sym is))
inner_global (form.TableForm name funcs) is = absurd (true≢false (sym is))
inner_global _ is = refl

inner_unnamed : (name : List ℕ) (says : Form) → IsInner says → names name says ≡ false
inner_unnamed name says is = ap (is_named name) (inner_global says is)

-- a function of a name among forms

record HasAmong (name : List ℕ) (says : List Form) : Type 0 where
  head : Head
  is : form_function (first_form name says) ≡ Some head
  named : head.name ≡ name

among_behind : (name : List ℕ) (says others : List Form) → list_any (names name) says ≡ false → HasAmong name others
    → HasAmong name (says ++ others)
among_behind name says others none among =
    record { head = among.head; is = ap form_function (behind_others name says others none) ∙ among.is; named = among.named }

-- functions that pass a test give a form that heads them, and others the forms of a body
module _ (test : Func → Bool) (one : Func → Form) (head : Func → Head) (inner : Func → List Form)
    (heads : (f : Func) → function_head (one f) ≡ Some (head f)) (named : (f : Func) → (head f).name ≡ f.name)
    (global : (f : Func) → global_of (one f) ≡ Some f.name) (within : (f : Func) → AllByRecursion IsInner (inner f)) where
  abbrev given : Func → List Form
  given f = forms_when (test f) (one f ∷ inner f)

  abbrev passes : List ℕ → Func → Bool
  passes name f = test f && bytes_eq f.name name

  given_here : (name : List ℕ) (f : Func) (others : List Form) → passes name f ≡ true → HasAmong name (given f ++ others)
  given_here name f others is =
      let both = and_both (test f) (bytes_eq f.name name) is in
      let here : names name (one f) ≡ true = ap (is_named name) (global f) ∙ both.1 in
      let found : first_form name (one f ∷ inner f ++ others) ≡ Some (one f) =
      ap (λ b. cond b (Some (one f)) (first_form name (inner f ++ others))) here in
      record {
        head = head f;
        is = ap (λ b. form_function (first_form name (forms_when b (one f ∷ inner f) ++ others))) both.0 ∙ ap form_function found ∙ heads f;
        named = named f ∙ same_text f.name name both.1;
      }

  unnamed_by : (name : List ℕ) (f : Func) → (test f ≡ true → bytes_eq f.name name ≡ false) → list_any (names name) (given f) ≡ false
  unnamed_by name f other =
      let behind = none_of IsInner (names name) (inner_unnamed name) (inner f) (within f) in
      none_when (names name) (test f) (one f ∷ inner f) (λ passed i. (ap (is_named name) (global f) ∙ other passed) i || behind i)

  not_passed : (a b : Bool) → a && b ≡ false → a ≡ true → b ≡ false
  not_passed a b is passed = grind arith

  given_step : (name : List ℕ) (f : Func) (fs : List Func) (others : List Form)
      → ((list_any (passes name) fs ≡ true) ⊎ HasAmong name others → HasAmong name (flat_map given fs ++ others))
      → (b : Bool) → passes name f ≡ b → (b || list_any (passes name) fs ≡ true) ⊎ HasAmong name others
      → HasAmong name (given f ++ (flat_map given fs ++ others))
  given_step name f fs others rest true here some = given_here name f (flat_map given fs ++ others) here
  given_step name f fs others rest false here some =
      among_behind name (given f) (flat_map given fs ++ others) (unnamed_by name f (not_passed (test f) (bytes_eq f.name name) here)) (rest some)

  given_among : (name : List ℕ) (fs : List Func) (others : List Form) → (list_any (passes name) fs ≡ true) ⊎ HasAmong name others
      → HasAmong name (flat_map given fs ++ others)
  given_among name [] others (inl some) = absurd (true≢false (sym some))
  given_among name [] others (inr among) = among
  given_among name (f ∷ fs) others some =
      subst (HasAmong name) (sym (append_assoc (given f) (flat_map given fs) others))
      (given_step name f fs others (given_among name fs others) (passes name f) refl some)

  -- none of them is of another name
  given_unnamed : (name : List ℕ) (fs : List Func) → is_function fs name ≡ false → list_any (names name) (flat_map given fs) ≡ false
  given_unnamed name [] none = refl
  given_unnamed name (f ∷ fs) none =
      let parts = or_neither (bytes_eq f.name name) (is_function fs name) none in
      none_joined (names name) (given f) (flat_map given fs) (unnamed_by name f (λ passed. parts.0)) (given_unnamed name fs parts.1)

-- what the forms of a module define

apart_step : (name x : List ℕ) (xs ys : List (List ℕ)) → (list_any (bytes_eq x) (xs ++ ys) ≡ false) → list_any (bytes_eq name) ys ≡ true
    → (b : Bool) → bytes_eq x name ≡ b → b ≡ false
apart_step name x xs ys none some true same =
    let own : list_any (bytes_eq name) (xs ++ ys) ≡ false = ap (λ y. list_any (bytes_eq y) (xs ++ ys)) (sym (same_text x name same)) ∙ none in
    let parts = or_neither (list_any (bytes_eq name) xs) (list_any (bytes_eq name) ys) (sym (list_any-append (bytes_eq name) xs ys) ∙ own) in
    absurd (true≢false (sym some ∙ parts.1))
apart_step name x xs ys none some false same = refl

-- of names that are apart, one that stands behind others is none of them
apart_before : (name : List ℕ) (xs ys : List (List ℕ)) → AreApart (xs ++ ys) → list_any (bytes_eq name) ys ≡ true
    → list_any (λ x. bytes_eq x name) xs ≡ false
apart_before name [] ys apart some = refl
apart_before name (x ∷ xs) ys apart some =
    λ i. apart_step name x xs ys apart.0 some (bytes_eq x name) refl i || apart_before name xs ys apart.1 some i

turned : (xs ys : List ℕ) → bytes_eq xs ys ≡ bytes_eq ys xs
turned [] [] = refl
turned [] (y ∷ ys) = refl
turned (x ∷ xs) [] = refl
turned (x ∷ xs) (y ∷ ys) = λ i. nat_turned x y i && turned xs ys i
  where
    nat_turned : (n m : ℕ) → nat_eq n m ≡ nat_eq m n
    nat_turned n m = grind arith

function_named : (name : List ℕ) (fs : List Func) → list_any (bytes_eq name) (map (λ f. f.name) fs) ≡ is_function fs name
function_named name [] = refl
function_named name (f ∷ fs) = λ i. turned name f.name i || function_named name fs i

-- what holds of the names of all functions
of_function_name : (P : List ℕ → Type 0) (name : List ℕ) (fs : List Func) → AllByRecursion (λ f. P f.name) fs → is_function fs name ≡ true
    → P name
of_function_name P name [] all is = absurd (true≢false (sym is))
of_function_name P name (f ∷ fs) all is =
    elim (bytes_eq f.name name) as (λ b. bytes_eq f.name name ≡ b → b || is_function fs name ≡ true → P name) [
      | true ↦ λ here some. subst P (same_text f.name name here) all.0
      | false ↦ λ other some. of_function_name P name fs all.1 some
    ] refl is

abbrev var_names : Module → List (List ℕ)
var_names m = map (λ v. v.name) m.vars

abbrev table_names : Module → List (List ℕ)
table_names m = map (λ table. table.name) m.jumps

abbrev function_names : Module → List (List ℕ)
function_names m = map (λ f. f.name) m.funcs

abbrev IsUnheld : Module → List ℕ → Type 0
IsUnheld m name = list_any (λ x. bytes_eq x name) (var_names m ++ table_names m) ≡ false

-- forms of variables and tables define only their names
vars_unnamed : (m : Module) (name : List ℕ) → IsUnheld m name → list_any (names name) (map var_said m.vars) ≡ false
vars_unnamed m name none =
    let parts = or_neither _ _ (sym (list_any-append (λ x. bytes_eq x name) (var_names m) (table_names m)) ∙ none) in
    any_mapped (names name) var_said m.vars ∙ sym (any_mapped (λ x. bytes_eq x name) (λ (v : Var). v.name) m.vars) ∙ parts.0

tables_unnamed : (m : Module) (name : List ℕ) → IsUnheld m name → list_any (names name) (map table_said m.jumps) ≡ false
tables_unnamed m name none =
    let parts = or_neither _ _ (sym (list_any-append (λ x. bytes_eq x name) (var_names m) (table_names m)) ∙ none) in
    any_mapped (names name) table_said m.jumps ∙ sym (any_mapped (λ x. bytes_eq x name) (λ (table : Jump). table.name) m.jumps) ∙ parts.1

-- and those of intrinsics theirs
global_intrinsic : (intrinsic : Intrinsic) → global_of (intrinsic_said intrinsic) ≡ Some (intrinsic_name intrinsic)
global_intrinsic Intrinsic.Rotation = refl
global_intrinsic Intrinsic.Trap = refl
global_intrinsic Intrinsic.CodedTrap = refl

called_unnamed : (m : Module) (intrinsic : Intrinsic) (name : List ℕ) → bytes_eq (intrinsic_name intrinsic) name ≡ false
    → list_any (names name) (called_forms m intrinsic) ≡ false
called_unnamed m intrinsic name other =
    none_when (names name) (is_called intrinsic m.funcs) (intrinsic_said intrinsic ∷ [])
    (λ called i. (ap (is_named name) (global_intrinsic intrinsic) ∙ other) i || false)

-- a name that is none of the called ones is none of a called intrinsic's
not_called : (b : Bool) (called : List ℕ) (name : List ℕ) → list_any (λ x. bytes_eq x name) (if b then called ∷ [] else []) ≡ false → b ≡ true
    → bytes_eq called name ≡ false
not_called true called name none is = (or_neither (bytes_eq called name) false none).0
not_called false called name none is = absurd (true≢false (sym is))

called_other : (m : Module) (intrinsic : Intrinsic) (name : List ℕ) → list_any (λ x. bytes_eq x name) (called_names m.funcs intrinsic) ≡ false
    → list_any (names name) (called_forms m intrinsic) ≡ false
called_other m intrinsic name none =
    none_when (names name) (is_called intrinsic m.funcs) (intrinsic_said intrinsic ∷ [])
    (λ called i. (ap (is_named name) (global_intrinsic intrinsic)
    ∙ not_called (is_called intrinsic m.funcs) (intrinsic_name intrinsic) name none called) i || false)

intrinsics_unnamed : (m : Module) (name : List ℕ) → is_called_name m.funcs name ≡ false → list_any (names name) (intrinsics_forms m) ≡ false
intrinsics_unnamed m name other =
    let is = λ (x : List ℕ). bytes_eq x name in
    let (rotation, traps_other) = parted is (called_names m.funcs Intrinsic.Rotation) _ other in
    let (trap, coded) = parted is (called_names m.funcs Intrinsic.Trap) _ traps_other in
    let none = λ (intrinsic : Intrinsic) (x : list_any is (called_names m.funcs intrinsic) ≡ false). called_other m intrinsic name x in
    let traps = none_joined (names name) (called_forms m Intrinsic.Trap) (called_forms m Intrinsic.CodedTrap) (none Intrinsic.Trap trap)
    (none Intrinsic.CodedTrap coded) in
    none_joined (names name) (called_forms m Intrinsic.Rotation) (called_forms m Intrinsic.Trap ++ called_forms m Intrinsic.CodedTrap)
    (none Intrinsic.Rotation rotation) traps

-- declarations and definitions of functions

declared_among : (name : List ℕ) (fs : List Func) (others : List Form)
    → (list_any (λ f. is_declared f && bytes_eq f.name name) fs ≡ true) ⊎ HasAmong name others
    → HasAmong name (flat_map declared_forms fs ++ others)
declared_among = given_among is_declared declare_of declare_head (λ f. []) (λ f. refl) (λ f. refl) (λ f. refl) (λ f. tt)

defined_among : (name : List ℕ) (fs : List Func) (others : List Form)
    → (list_any (λ f. is_defined f && bytes_eq f.name name) fs ≡ true) ⊎ HasAmong name others
    → HasAmong name (flat_map defined_forms fs ++ others)
defined_among =
    given_among is_defined define_said define_head (λ f. body_forms f.blocks) (λ f. refl) (λ f. refl) (λ f. refl) (λ f. body_inner f.blocks)

one_passes : (declared here rest one other : Bool) → (rest ≡ true → (one ≡ true) ⊎ (other ≡ true)) → here || rest ≡ true
    → (declared && here || one ≡ true) ⊎ (not declared && here || other ≡ true)
one_passes true true rest one other later is = inl refl
one_passes false true rest one other later is = inr refl
one_passes true false rest one other later is = later is
one_passes false false rest one other later is = later is

-- a function is declared or defined
declared_or_defined : (name : List ℕ) (fs : List Func) → is_function fs name ≡ true
    → (list_any (λ f. is_declared f && bytes_eq f.name name) fs ≡ true) ⊎ (list_any (λ f. is_defined f && bytes_eq f.name name) fs ≡ true)
declared_or_defined name [] is = absurd (true≢false (sym is))
declared_or_defined name (f ∷ fs) is =
    one_passes (is_declared f) (bytes_eq f.name name) (is_function fs name) _ _ (declared_or_defined name fs) is

function_among : (m : Module) (name : List ℕ) → is_function m.funcs name ≡ true → HasAmong name (functions_forms m)
function_among m name is =
    elim (declared_or_defined name m.funcs is) as (λ _. HasAmong name (functions_forms m)) [
      | inl some ↦ declared_among name m.funcs (flat_map defined_forms m.funcs) (inl some)
      | inr some ↦ declared_among name m.funcs (flat_map defined_forms m.funcs)
          (inr (subst (HasAmong name) (append-nil (flat_map defined_forms m.funcs)) (defined_among name m.funcs [] (inl some))))
    ]

functions_unnamed : (m : Module) (name : List ℕ) → is_function m.funcs name ≡ false → list_any (names name) (functions_forms m) ≡ false
functions_unnamed m name none =
    none_joined (names name) (flat_map declared_forms m.funcs) (flat_map defined_forms m.funcs)
    (given_unnamed is_declared declare_of declare_head (λ f. []) (λ f. refl) (λ f. refl) (λ f. refl) (λ f. tt) name m.funcs none)
    (given_unnamed is_defined define_said define_head (λ f. body_forms f.blocks) (λ f. refl) (λ f. refl) (λ f. refl)
    (λ f. body_inner f.blocks) name m.funcs none)

function_form : (m : Module) (name : List ℕ) → IsPrinted m → is_function m.funcs name ≡ true → HasAmong name (parts_of m)
function_form m name printed is =
    let apart : AreApart ((var_names m ++ table_names m) ++ intrinsics_of m.funcs ++ function_names m) =
    subst AreApart (sym (append_assoc (var_names m ++ table_names m) (intrinsics_of m.funcs) (function_names m))) printed.apart in
    let (held, plain) = parted (λ x. bytes_eq x name) (var_names m ++ table_names m) (intrinsics_of m.funcs)
    (apart_before name ((var_names m ++ table_names m) ++ intrinsics_of m.funcs) (function_names m) apart (function_named name m.funcs ∙ is)) in
    among_behind name (map var_said m.vars) (map table_said m.jumps ++ code_forms m) (vars_unnamed m name held)
    (among_behind name (map table_said m.jumps) (code_forms m) (tables_unnamed m name held)
    (among_behind name (intrinsics_forms m) (functions_forms m) (intrinsics_unnamed m name plain) (function_among m name is)))

-- forms that head no function
no_function : {X : Type 0} (f : X → Form) → ((x : X) → function_head (f x) ≡ None) → (name : List ℕ) (xs : List X) (others : List Form)
    → form_function (first_form name others) ≡ None → form_function (first_form name (map f xs ++ others)) ≡ None
no_function f headless name [] others none = none
no_function f headless name (x ∷ xs) others none =
    elim (names name (f x)) as (λ b. form_function (cond b (Some (f x)) (first_form name (map f xs ++ others))) ≡ None) [
      | true ↦ headless x
      | false ↦ no_function f headless name xs others none
    ]

unknown_form : (m : Module) (name : List ℕ) → is_function m.funcs name ≡ false → is_called_name m.funcs name ≡ false
    → form_function (first_form name (parts_of m)) ≡ None
unknown_form m name none plain =
    let behind = none_joined (names name) (intrinsics_forms m) (functions_forms m)
    (intrinsics_unnamed m name plain) (functions_unnamed m name none) in
    let nothing = ap form_function (ap (first_form name) (sym (append-nil (code_forms m))) ∙ behind_others name (code_forms m) [] behind) in
    no_function var_said (λ v. refl) name m.vars (map table_said m.jumps ++ code_forms m)
    (no_function table_said (λ table. refl) name m.jumps (code_forms m) nothing)

-- the first form of an intrinsic's name declares it
called_first : (m : Module) (intrinsic : Intrinsic) → is_called intrinsic m.funcs ≡ true
    → (others : List Form) → first_form (intrinsic_name intrinsic) (called_forms m intrinsic ++ others) ≡ Some (intrinsic_said intrinsic)
called_first m intrinsic called others =
    let name = intrinsic_name intrinsic in
    let own : names name (intrinsic_said intrinsic) ≡ true = ap (is_named name) (global_intrinsic intrinsic) ∙ own_text name in
    ap (λ b. first_form name (forms_when b (intrinsic_said intrinsic ∷ []) ++ others)) called
    ∙ ap (λ b. cond b (Some (intrinsic_said intrinsic)) (first_form name others)) own

intrinsics_first : (m : Module) → code_forms m ≡ called_forms m Intrinsic.Rotation
    ++ (called_forms m Intrinsic.Trap ++ (called_forms m Intrinsic.CodedTrap ++ functions_forms m))
intrinsics_first m = simp append_assoc

first_among : (m : Module) (intrinsic : Intrinsic) → is_called intrinsic m.funcs ≡ true
    → first_form (intrinsic_name intrinsic) (code_forms m) ≡ Some (intrinsic_said intrinsic)
first_among m Intrinsic.Rotation called =
    ap (first_form (intrinsic_name Intrinsic.Rotation)) (intrinsics_first m) ∙ called_first m Intrinsic.Rotation called _
first_among m Intrinsic.Trap called =
    let name = intrinsic_name Intrinsic.Trap in
    ap (first_form name) (intrinsics_first m)
    ∙ behind_others name (called_forms m Intrinsic.Rotation) _ (called_unnamed m Intrinsic.Rotation name refl)
    ∙ called_first m Intrinsic.Trap called _
first_among m Intrinsic.CodedTrap called =
    let name = intrinsic_name Intrinsic.CodedTrap in
    ap (first_form name) (intrinsics_first m)
    ∙ behind_others name (called_forms m Intrinsic.Rotation) _ (called_unnamed m Intrinsic.Rotation name refl)
    ∙ behind_others name (called_forms m Intrinsic.Trap) _ (called_unnamed m Intrinsic.Trap name refl)
    ∙ called_first m Intrinsic.CodedTrap called _

-- a called intrinsic is among the called ones

some_first : {X : Type 0} (p : X → Bool) (xs ys : List X) → list_any p xs ≡ true → list_any p (xs ++ ys) ≡ true
some_first p xs ys some = list_any-append p xs ys ∙ ap (λ b. b || list_any p ys) some

some_behind : {X : Type 0} (p : X → Bool) (xs ys : List X) → list_any p ys ≡ true → list_any p (xs ++ ys) ≡ true
some_behind p xs ys some = list_any-append p xs ys ∙ ap (λ b. list_any p xs || b) some ∙ or_second (list_any p xs) true refl

called_own : (funcs : List Func) (intrinsic : Intrinsic) → is_called intrinsic funcs ≡ true
    → list_any (bytes_eq (intrinsic_name intrinsic)) (called_names funcs intrinsic) ≡ true
called_own funcs intrinsic called =
    ap (λ b. list_any (bytes_eq (intrinsic_name intrinsic)) (if b then intrinsic_name intrinsic ∷ [] else [])) called
    ∙ ap (λ b. b || false) (own_text (intrinsic_name intrinsic))

called_among : (funcs : List Func) (intrinsic : Intrinsic) → is_called intrinsic funcs ≡ true
    → list_any (bytes_eq (intrinsic_name intrinsic)) (intrinsics_of funcs) ≡ true
called_among funcs Intrinsic.Rotation called =
    some_first _ (called_names funcs Intrinsic.Rotation) (called_names funcs Intrinsic.Trap ++ called_names funcs Intrinsic.CodedTrap)
    (called_own funcs Intrinsic.Rotation called)
called_among funcs Intrinsic.Trap called =
    some_behind _ (called_names funcs Intrinsic.Rotation) (called_names funcs Intrinsic.Trap ++ called_names funcs Intrinsic.CodedTrap)
    (some_first _ (called_names funcs Intrinsic.Trap) (called_names funcs Intrinsic.CodedTrap) (called_own funcs Intrinsic.Trap called))
called_among funcs Intrinsic.CodedTrap called =
    some_behind _ (called_names funcs Intrinsic.Rotation) (called_names funcs Intrinsic.Trap ++ called_names funcs Intrinsic.CodedTrap)
    (some_behind _ (called_names funcs Intrinsic.Trap) (called_names funcs Intrinsic.CodedTrap) (called_own funcs Intrinsic.CodedTrap called))

unheld_intrinsic : (m : Module) (intrinsic : Intrinsic) → IsPrinted m → is_called intrinsic m.funcs ≡ true → IsUnheld m (intrinsic_name intrinsic)
unheld_intrinsic m intrinsic printed called =
    let name = intrinsic_name intrinsic in
    apart_before name (var_names m ++ table_names m) (intrinsics_of m.funcs ++ function_names m) printed.apart
    (list_any-append (bytes_eq name) (intrinsics_of m.funcs) (function_names m)
    ∙ ap (λ b. b || list_any (bytes_eq name) (function_names m)) (called_among m.funcs intrinsic called))

intrinsic_form : (m : Module) (intrinsic : Intrinsic) → IsPrinted m → is_called intrinsic m.funcs ≡ true
    → first_form (intrinsic_name intrinsic) (parts_of m) ≡ Some (intrinsic_said intrinsic)
intrinsic_form m intrinsic printed called =
    let name = intrinsic_name intrinsic in
    let unheld = unheld_intrinsic m intrinsic printed called in
    behind_others name (map var_said m.vars) (map table_said m.jumps ++ code_forms m) (vars_unnamed m name unheld)
    ∙ behind_others name (map table_said m.jumps) (code_forms m) (tables_unnamed m name unheld) ∙ first_among m intrinsic called

-- units that say the forms know the functions and the intrinsics

function_known : (us : Units) (name : List ℕ) → HasAmong name (forms us) → HasFunction us name
function_known us name among = record { head = among.head; is = function_is us name ∙ among.is; named = among.named }

intrinsic_known : (us : Units) (intrinsic : Intrinsic) → SaidBy (intrinsic_name intrinsic) us (intrinsic_said intrinsic)
    → HasIntrinsic us (intrinsic_name intrinsic)
intrinsic_known us Intrinsic.Rotation by =
    record { u = by.u; head = head_said (intrinsic_name Intrinsic.Rotation) None _ _; first = by.first; declares = by.is; named = refl }
intrinsic_known us Intrinsic.Trap by =
    record { u = by.u; head = head_said (intrinsic_name Intrinsic.Trap) None _ _; first = by.first; declares = by.is; named = refl }
intrinsic_known us Intrinsic.CodedTrap by =
    record { u = by.u; head = head_said (intrinsic_name Intrinsic.CodedTrap) None _ _; first = by.first; declares = by.is; named = refl }

pub knows : (us : Units) (m : Module) → IsPrinted m → forms us ≡ forms_of m → Knows us m
knows us m printed say =
    let parts : forms us ≡ parts_of m = say ∙ forms_are m in
    record {
      functions = λ name is. function_known us name (subst (HasAmong name) (sym parts) (function_form m name printed is));
      plain = λ name is. of_function_name (λ n. is_intrinsic n ≡ false) name m.funcs printed.no_intrinsic is;
      others = λ name none plain. function_is us name ∙ ap (λ says. form_function (first_form name says)) parts ∙ unknown_form m name none plain;
      intrinsics = λ intrinsic called. intrinsic_known us intrinsic
          (unit_is us (intrinsic_name intrinsic) (intrinsic_said intrinsic)
          (ap (first_form (intrinsic_name intrinsic)) parts ∙ intrinsic_form m intrinsic printed called));
    }
