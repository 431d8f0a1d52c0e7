-- The globals of a file without flaws: each has a name of its own, and the functions are those that units declare and define.
use Rattle.std.proofs.Common.{◌≡◌, refl, ◌∙◌, ap, sym, subst, true≢false, ℕ, ◌+◌, Bool, true, false, cond, ◌&&◌, ◌||◌, if◌then◌else◌, List, [], ◌∷◌, ◌++◌, map, Option, Some, None, inl, inr}
use Rattle.std.specs.Prelude.{flat_map}
use Rattle.std.specs.List.{list_any}
use Rattle.std.specs.Str.{bytes_eq}
use Rattle.std.proofs.lemmas.List.{map-append}
use Rattle.std.proofs.lemmas.List.Folds.{list_any-append}
use Rattle.std.proofs.lemmas.Option.{none-some}
use Rattle.unit_grammar.proofs.BoolLemmas.{or_either, is_false, not_both}
use Rattle.ltt_base.specs.declared.refusal.Place.{Place}
use Rattle.ltt_base.specs.declared.refusal.Placed.{Placed}
use Rattle.ir_values.specs.declared.modules.Func.{Func}
use Rattle.ir_values.specs.declared.units.Head.{Head}
use Rattle.ir_values.specs.declared.units.Unit.{Unit as TheUnit}
use Rattle.ir_values.specs.declared.units.Form.{Form}
use Rattle.ir_values.specs.declared.units.Form.TheVariants.{VariableForm, DeclareForm, DefineForm, TableForm}
use Rattle.ir_print.specs.declared.intrinsics.Intrinsic.{Intrinsic}
use Rattle.ir_print.specs.ModuleText.{is_called}
use Rattle.check_names.specs.declared.spaces.Space.TheVariants.{Globals}
use Rattle.check_names.specs.Spaces.{global_of, is_named, is_definition, first_unit}
use Rattle.check_names.specs.Reserved.{is_intrinsic}
use Rattle.check_constants.specs.Intrinsics.{is_declaration, declares, is_declared_intrinsic}
use Rattle.kept_parts.specs.Called.{function_head, unit_function}
use Rattle.built_modules.specs.Variables.{vars_in, vars_at}
use Rattle.built_modules.specs.Functions.{declared, funcs_in, funcs_from}
use Rattle.built_modules.specs.Modules.{jumps_in, jumps_at, module_of}
use Rattle.printed_modules.specs.Printed.{intrinsic_name, called_names, intrinsics_of, is_called_name, is_function, is_declared, globals_of, AreApart}
use Rattle.printed_units.proofs.ListLemmas.{map_flat}
use Rattle.sized_modules.proofs.UnitLemmas.{Units}
use Rattle.clean_outputs.specs.Shallow.{declarations_first}
use Rattle.clean_outputs.proofs.FileLemmas.{IsFile}
use Rattle.clean_outputs.proofs.FunctionsKnown.{IsPlainFunction, KnowsFunctions}
use Rattle.clean_outputs.proofs.ApartLemmas.{Names, is_in, same_text, turned, any_parted, apart_joined, apart_parted}
use Rattle.clean_outputs.proofs.DefinedLemmas.{AreApartUnits, file_apart, first_defines, found, IsPick, picked_first, picked_apart}
use Rattle.clean_outputs.proofs.CalledLemmas.{called_parted, called_declared}

-- the names that a unit gives to variables, tables and functions of the module

abbrev form_vars : Form → Names
form_vars (VariableForm name linkage constant ty init align attached) = name ∷ []
form_vars _ = []

abbrev form_tables : Form → Names
form_tables (TableForm name funcs) = name ∷ []
form_tables _ = []

abbrev form_funcs : Form → Names
form_funcs (DeclareForm head) = cond (is_intrinsic head.name) [] (head.name ∷ [])
form_funcs (DefineForm head) = head.name ∷ []
form_funcs _ = []

abbrev var_names : Placed TheUnit → Names
var_names u = form_vars u.value.form

abbrev table_names : Placed TheUnit → Names
table_names u = form_tables u.value.form

abbrev func_names : Placed TheUnit → Names
func_names u = form_funcs u.value.form

-- each is the name that the unit defines

only_one : (name one : List ℕ) → is_in name (one ∷ []) ≡ true → bytes_eq one name ≡ true
only_one name one is =
    elim (or_either (bytes_eq name one) false is) as (λ _. bytes_eq one name ≡ true) [
      | inl same ↦ turned one name ∙ same
      | inr none ↦ absurd (true≢false (sym none))
    ]

vars_defined : (says : Form) (name : List ℕ) → is_in name (form_vars says) ≡ true → is_named name (global_of says) ≡ true
vars_defined (VariableForm own linkage constant ty init align attached) name is = only_one name own is
vars_defined _ name is = absurd (true≢false (sym is))

tables_defined : (says : Form) (name : List ℕ) → is_in name (form_tables says) ≡ true → is_named name (global_of says) ≡ true
tables_defined (TableForm own funcs) name is = only_one name own is
tables_defined _ name is = absurd (true≢false (sym is))

plain_one : (name one : List ℕ) (b : Bool) → is_in name (cond b [] (one ∷ [])) ≡ true → bytes_eq one name ≡ true
plain_one name one true is = absurd (true≢false (sym is))
plain_one name one false is = only_one name one is

funcs_defined : (says : Form) (name : List ℕ) → is_in name (form_funcs says) ≡ true → is_named name (global_of says) ≡ true
funcs_defined (DeclareForm head) name is = plain_one name head.name (is_intrinsic head.name) is
funcs_defined (DefineForm head) name is = only_one name head.name is
funcs_defined _ name is = absurd (true≢false (sym is))

-- and it gives one at most

vars_apart : (says : Form) → AreApart (form_vars says)
vars_apart (VariableForm own linkage constant ty init align attached) = (refl, tt)
vars_apart _ = tt

tables_apart : (says : Form) → AreApart (form_tables says)
tables_apart (TableForm own funcs) = (refl, tt)
tables_apart _ = tt

plain_apart : (one : List ℕ) (b : Bool) → AreApart (cond b [] (one ∷ []))
plain_apart one true = tt
plain_apart one false = (refl, tt)

funcs_apart : (says : Form) → AreApart (form_funcs says)
funcs_apart (DeclareForm head) = plain_apart head.name (is_intrinsic head.name)
funcs_apart (DefineForm head) = (refl, tt)
funcs_apart _ = tt

-- they are the names of the module's

vars_named : (us : Units) (file : ℕ) (place : Place) (says : Form) → map (λ v. v.name) (vars_in true us file place says) ≡ form_vars says
vars_named us file place (VariableForm name linkage constant ty init align attached) = refl
vars_named us file place _ = refl

tables_named : (place : Place) (says : Form) → map (λ table. table.name) (jumps_in place says) ≡ form_tables says
tables_named place (TableForm name funcs) = refl
tables_named place _ = refl

plain_named : (us : Units) (place : Place) (head : Head) (b : Bool)
    → map (λ f. f.name) (cond b [] (declared us place head ∷ [])) ≡ cond b [] (head.name ∷ [])
plain_named us place head true = refl
plain_named us place head false = refl

funcs_named : (us : Units) (file at : ℕ) (place : Place) (says : Form) → map (λ f. f.name) (funcs_in true us file at place says) ≡ form_funcs says
funcs_named us file at place (DeclareForm head) = plain_named us place head (is_intrinsic head.name)
funcs_named us file at place (DefineForm head) = refl
funcs_named us file at place _ = refl

all_funcs_named : (us : Units) (file at : ℕ) (units : Units) → map (λ f. f.name) (funcs_from true us file at units) ≡ flat_map func_names units
unfolding funcs_from
all_funcs_named us file at [] = refl
all_funcs_named us file at (u ∷ units) =
    map-append (λ f. f.name) (funcs_in true us file at u.place u.value.form) (funcs_from true us file (at + 1) units)
    ∙ (λ i. funcs_named us file at u.place u.value.form i ++ all_funcs_named us file (at + 1) units i)

-- variables, tables and functions are none of the others

var_no_table : (name : List ℕ) (says : Form) → is_in name (form_vars says) ≡ true → is_in name (form_tables says) ≡ false
var_no_table name (VariableForm own linkage constant ty init align attached) is = refl
var_no_table name _ is = absurd (true≢false (sym is))

-- such a form heads no function
record IsHeld (says : Form) : Type 0 where
  undeclared : is_declaration says ≡ false
  headless : function_head says ≡ None

var_held : (name : List ℕ) (says : Form) → is_in name (form_vars says) ≡ true → IsHeld says
var_held name (VariableForm own linkage constant ty init align attached) is = record { undeclared = refl; headless = refl }
var_held name _ is = absurd (true≢false (sym is))

table_held : (name : List ℕ) (says : Form) → is_in name (form_tables says) ≡ true → IsHeld says
table_held name (TableForm own funcs) is = record { undeclared = refl; headless = refl }
table_held name _ is = absurd (true≢false (sym is))

record IsHeldIn (first : Option (Placed TheUnit)) : Type 0 where
  undeclared : declares first ≡ false
  headless : unit_function first ≡ None

held_in : (pick : Form → Names) (name : List ℕ) → ((says : Form) → is_in name (pick says) ≡ true → IsHeld says)
    → (first : Option (Placed TheUnit)) → is_in name (found (λ u. pick u.value.form) first) ≡ true → IsHeldIn first
held_in pick name held None is = absurd (true≢false (sym is))
held_in pick name held (Some u) is =
    let here = held u.value.form is in
    record { undeclared = here.undeclared; headless = here.headless }

no_table_in : (name : List ℕ) (first : Option (Placed TheUnit)) → is_in name (found var_names first) ≡ true
    → is_in name (found table_names first) ≡ false
no_table_in name None is = refl
no_table_in name (Some u) is = var_no_table name u.value.form is

-- a function's name is that of a head which declares no intrinsic

record IsPlainHead (name : List ℕ) (says : Form) : Type 0 where
  own : Head
  is : function_head says ≡ Some own
  plain : is_intrinsic name && is_declaration says ≡ false

plain_declared : (name : List ℕ) (head : Head) (b : Bool) → is_intrinsic head.name ≡ b → is_in name (cond b [] (head.name ∷ [])) ≡ true
    → IsPlainHead name (DeclareForm head)
plain_declared name head true at is = absurd (true≢false (sym is))
plain_declared name head false at is = record {
  own = head;
  is = refl;
  plain = ap (λ x. is_intrinsic x && true) (sym (same_text head.name name (only_one name head.name is))) ∙ ap (λ b. b && true) at;
}

and_never : (b : Bool) → b && false ≡ false
and_never true = refl
and_never false = refl

plain_head : (name : List ℕ) (says : Form) → is_in name (form_funcs says) ≡ true → IsPlainHead name says
plain_head name (DeclareForm head) is = plain_declared name head (is_intrinsic head.name) refl is
plain_head name (DefineForm head) is = record { own = head; is = refl; plain = and_never (is_intrinsic name) }
plain_head name _ is = absurd (true≢false (sym is))

plain_in : (us : Units) (name : List ℕ) (first : Option (Placed TheUnit)) → first_unit Globals name us ≡ first
    → is_in name (found func_names first) ≡ true → IsPlainFunction us name
plain_in us name None at is = absurd (true≢false (sym is))
plain_in us name (Some u) at is =
    let head = plain_head name u.value.form is in
    record {
      own = head.own;
      is = ap unit_function at ∙ head.is;
      plain = ap (λ first. is_intrinsic name && declares first) at ∙ head.plain;
    }

-- and each such head gives its name

own_one : (name one : List ℕ) → bytes_eq one name ≡ true → is_in name (one ∷ []) ≡ true
own_one name one same = ap (λ b. b || false) (turned name one ∙ same)

head_plain : (name : List ℕ) (own : Head) (says : Form) → is_named name (global_of says) ≡ true → function_head says ≡ Some own
    → is_intrinsic name && is_declaration says ≡ false → is_in name (form_funcs says) ≡ true
head_plain name own (DeclareForm head) named is plain =
    let same = same_text head.name name named in
    let other : is_intrinsic head.name ≡ false = ap is_intrinsic same ∙ never (is_intrinsic name) plain in
    ap (λ b. is_in name (cond b [] (head.name ∷ []))) other ∙ own_one name head.name named
  where
    never : (b : Bool) → b && true ≡ false → b ≡ false
    never true is = is
    never false is = refl
head_plain name own (DefineForm head) named is plain = own_one name head.name named
head_plain name own _ named is plain = absurd (cc)

in_plain : (name : List ℕ) (own : Head) (first : Option (Placed TheUnit))
    → ((u : Placed TheUnit) → first ≡ Some u → is_definition Globals name u ≡ true) → unit_function first ≡ Some own
    → is_intrinsic name && declares first ≡ false → is_in name (found func_names first) ≡ true
in_plain name own None defined is plain = absurd (cc)
in_plain name own (Some u) defined is plain = head_plain name own u.value.form (defined u refl) is plain

-- the name of an intrinsic that is called

called_one : (b : Bool) (one name : List ℕ) → list_any (λ x. bytes_eq x name) (if b then one ∷ [] else []) ≡ true
    → (b ≡ true) × (one ≡ name)
called_one true one name is =
    elim (or_either (bytes_eq one name) false is) as (λ _. (true ≡ true) × (one ≡ name)) [
      | inl same ↦ (refl, same_text one name same)
      | inr none ↦ absurd (true≢false (sym none))
    ]
called_one false one name is = absurd (true≢false (sym is))

in_either : {X Q : Type 0} (p : X → Bool) (xs ys : List X) → (list_any p xs ≡ true → Q) → (list_any p ys ≡ true → Q)
    → list_any p (xs ++ ys) ≡ true → Q
in_either {X} {Q} p xs ys one other is =
    elim (or_either (list_any p xs) (list_any p ys) (sym (list_any-append p xs ys) ∙ is)) as (λ _. Q) [
      | inl here ↦ one here
      | inr there ↦ other there
    ]

-- names that are apart

any_turned : (name : List ℕ) (names : Names) → list_any (λ x. bytes_eq x name) names ≡ is_in name names
any_turned name [] = refl
any_turned name (x ∷ names) = λ i. turned x name i || any_turned name names i

called_apart : (a b c : Bool) → AreApart ((if a then intrinsic_name Intrinsic.Rotation ∷ [] else [])
    ++ ((if b then intrinsic_name Intrinsic.Trap ∷ [] else []) ++ (if c then intrinsic_name Intrinsic.CodedTrap ∷ [] else [])))
called_apart true true true = (refl, (refl, (refl, tt)))
called_apart true true false = (refl, (refl, tt))
called_apart true false true = (refl, (refl, tt))
called_apart true false false = (refl, tt)
called_apart false true true = (refl, (refl, tt))
called_apart false true false = (refl, tt)
called_apart false false true = (refl, tt)
called_apart false false false = tt

-- the module of a file without flaws
module _ (us : Units) (of : IsFile us) (file : ℕ) where
  abbrev funcs : List Func
  funcs = (module_of true us file).funcs

  abbrev ordered : List Func
  ordered = (declarations_first (module_of true us file)).funcs

  apart : AreApartUnits us
  apart = file_apart us of

  function_named : (name : List ℕ) (fs : List Func) → is_function fs name ≡ is_in name (map (λ f. f.name) fs)
  function_named name [] = refl
  function_named name (f ∷ fs) = λ i. turned f.name name i || function_named name fs i

  function_found : (name : List ℕ) → is_function ordered name ≡ is_in name (found func_names (first_unit Globals name us))
  unfolding module_of
  function_found name =
      any_parted (λ f. bytes_eq f.name name) is_declared funcs ∙ function_named name funcs ∙ ap (is_in name) (all_funcs_named us file 0 us)
      ∙ picked_first func_names (λ u x is. funcs_defined u.value.form x is) us name apart

  called_known : (intrinsic : Intrinsic) (name : List ℕ) → list_any (λ x. bytes_eq x name) (called_names ordered intrinsic) ≡ true
      → is_declared_intrinsic us name ≡ true
  called_known intrinsic name is =
      let one = called_one (is_called intrinsic ordered) (intrinsic_name intrinsic) name is in
      subst (λ x. is_declared_intrinsic us x ≡ true) one.1
      (called_declared us of file intrinsic (sym (called_parted intrinsic (module_of true us file)) ∙ one.0))

  intrinsic_known : (name : List ℕ) → is_called_name ordered name ≡ true → is_declared_intrinsic us name ≡ true
  intrinsic_known name is =
      let named = λ (x : List ℕ). bytes_eq x name in
      let coded = called_names ordered Intrinsic.CodedTrap in
      in_either named (called_names ordered Intrinsic.Rotation) (called_names ordered Intrinsic.Trap ++ coded)
      (called_known Intrinsic.Rotation name)
      (in_either named (called_names ordered Intrinsic.Trap) coded (called_known Intrinsic.Trap name) (called_known Intrinsic.CodedTrap name)) is

  known : KnowsFunctions us ordered
  known = record {
    has = λ name is. function_found name ∙ in_plain name is.own (first_unit Globals name us) (first_defines us name) is.is is.plain;
    only = λ name is. plain_in us name (first_unit Globals name us) refl (sym (function_found name) ∙ is);
    intrinsics = intrinsic_known;
  }

  -- the names of the module's globals, sort by sort

  abbrev vars : Names
  vars = map (λ v. v.name) (module_of true us file).vars

  abbrev tables : Names
  tables = map (λ table. table.name) (module_of true us file).jumps

  abbrev called : Names
  called = intrinsics_of ordered

  vars_are : vars ≡ flat_map var_names us
  unfolding module_of
  vars_are = map_flat (λ v. v.name) (vars_at true us file) var_names (λ u. vars_named us file u.place u.value.form) us

  tables_are : tables ≡ flat_map table_names us
  unfolding module_of
  tables_are = map_flat (λ table. table.name) jumps_at table_names (λ u. tables_named u.place u.value.form) us

  funcs_are : map (λ f. f.name) funcs ≡ flat_map func_names us
  unfolding module_of
  funcs_are = all_funcs_named us file 0 us

  picks_vars : IsPick var_names
  picks_vars u name is = vars_defined u.value.form name is

  picks_tables : IsPick table_names
  picks_tables u name is = tables_defined u.value.form name is

  picks_funcs : IsPick func_names
  picks_funcs u name is = funcs_defined u.value.form name is

  var_first : (name : List ℕ) → is_in name vars ≡ is_in name (found var_names (first_unit Globals name us))
  var_first name = ap (is_in name) vars_are ∙ picked_first var_names picks_vars us name apart

  table_first : (name : List ℕ) → is_in name tables ≡ is_in name (found table_names (first_unit Globals name us))
  table_first name = ap (is_in name) tables_are ∙ picked_first table_names picks_tables us name apart

  held_apart : AreApart (vars ++ tables)
  held_apart =
      apart_joined vars tables
      (subst AreApart (sym vars_are) (picked_apart var_names picks_vars us apart (λ u. vars_apart u.value.form)))
      (subst AreApart (sym tables_are) (picked_apart table_names picks_tables us apart (λ u. tables_apart u.value.form)))
      (λ name is. table_first name ∙ no_table_in name (first_unit Globals name us) (sym (var_first name) ∙ is))

  held : (name : List ℕ) → is_in name (vars ++ tables) ≡ true → IsHeldIn (first_unit Globals name us)
  held name is =
      in_either (bytes_eq name) vars tables
      (λ here. held_in form_vars name (var_held name) (first_unit Globals name us) (sym (var_first name) ∙ here))
      (λ there. held_in form_tables name (table_held name) (first_unit Globals name us) (sym (table_first name) ∙ there)) is

  in_called : (name : List ℕ) → is_in name called ≡ true → is_declared_intrinsic us name ≡ true
  in_called name is = known.intrinsics name (any_turned name called ∙ is)

  in_funcs : (name : List ℕ) → is_in name (map (λ f. f.name) ordered) ≡ true → IsPlainFunction us name
  in_funcs name is = known.only name (function_named name ordered ∙ is)

  code_apart : AreApart (called ++ map (λ f. f.name) ordered)
  code_apart =
      apart_joined called (map (λ f. f.name) ordered)
      (called_apart (is_called Intrinsic.Rotation ordered) (is_called Intrinsic.Trap ordered) (is_called Intrinsic.CodedTrap ordered))
      (apart_parted (λ f. f.name) is_declared funcs
      (subst AreApart (sym funcs_are) (picked_apart func_names picks_funcs us apart (λ u. funcs_apart u.value.form))))
      (λ name is. is_false (is_in name (map (λ f. f.name) ordered)) (λ also.
      not_both (is_declared_intrinsic us name) (in_called name is) (in_funcs name also).plain))

  held_elsewhere : (name : List ℕ) → IsHeldIn (first_unit Globals name us) → is_in name (called ++ map (λ f. f.name) ordered) ≡ true → ⊥
  held_elsewhere name other is =
      in_either (bytes_eq name) called (map (λ f. f.name) ordered)
      (λ here. not_both (is_declared_intrinsic us name) (in_called name here)
      (ap (λ b. is_intrinsic name && b) other.undeclared ∙ and_never (is_intrinsic name)))
      (λ there. none-some _ (sym other.headless ∙ (in_funcs name there).is)) is

  all_apart : AreApart ((vars ++ tables) ++ (called ++ map (λ f. f.name) ordered))
  all_apart =
      apart_joined (vars ++ tables) (called ++ map (λ f. f.name) ordered) held_apart code_apart
      (λ name is. is_false (is_in name (called ++ map (λ f. f.name) ordered)) (held_elsewhere name (held name is)))

pub functions_known : (us : Units) → IsFile us → (file : ℕ) → KnowsFunctions us (declarations_first (module_of true us file)).funcs
functions_known us of file = known us of file

pub globals_apart : (us : Units) → IsFile us → (file : ℕ) → AreApart (globals_of (declarations_first (module_of true us file)))
globals_apart us of file = all_apart us of file
