-- The variables and tables of units that say what the lines of a printed module say.
use Rattle.std.proofs.Common.{◌≡◌, refl, ◌∙◌, ap, sym, true≢false, ℕ, ◌≤◌, max, Bool, true, false, is_none, List, [], ◌∷◌, ◌++◌, map, Option, Some, None, append-nil, arith}
use Rattle.std.specs.Prelude.{flat_map}
use Rattle.std.specs.List.{AllByRecursion}
use Rattle.std.proofs.lemmas.List.{map-append}
use Rattle.std.proofs.lemmas.Grind.{flat_map-append}
use Rattle.ltt_base.specs.declared.refusal.Place.{Place}
use Rattle.ir_values.specs.declared.types.Ty.{Ty}
use Rattle.ir_values.specs.declared.constants.Const.{Const}
use Rattle.ir_values.specs.declared.modules.Linkage.{Linkage}
use Rattle.ir_values.specs.declared.modules.Linkage.TheVariants.{Private, Strong, Weak, External}
use Rattle.ir_values.specs.declared.modules.Func.{Func}
use Rattle.ir_values.specs.declared.modules.Var.{Var}
use Rattle.ir_values.specs.declared.modules.Jump.{Jump}
use Rattle.ir_values.specs.declared.modules.Module.{Module}
use Rattle.ir_values.specs.declared.units.Form.{Form}
use Rattle.ir_values.specs.declared.units.Form.TheVariants as form
use Rattle.ir_print.specs.declared.intrinsics.Intrinsic.{Intrinsic}
use Rattle.ir_print.specs.ModuleText.{is_called}
use Rattle.type_grammar.specs.Levels.{levels}
use Rattle.check_types.specs.Measures.{align}
use Rattle.check_items.specs.Entries.{entries_of, visibility_of}
use Rattle.built_modules.specs.Linkages.{linkage_of}
use Rattle.built_modules.specs.Variables.{init_of, kept_attached, vars_in, vars_at}
use Rattle.built_modules.specs.Modules.{jumps_in, jumps_at}
use Rattle.printed_units.specs.Said.{content_word, init_said, var_said, table_said, define_said, intrinsic_said}
use Rattle.printed_units.specs.Written.{IsTy, IsInit, IsVar}
use Rattle.printed_modules.specs.Printed.{is_declared, LinkageFits, IsKeptInit, has_no_init, IsKeptVar, no_place, strong, plain_var, plain_table}
use Rattle.printed_units.proofs.ListLemmas.{all_joined, all_of, all_flat}
use Rattle.printed_modules.proofs.TypeKept.{Units, ty_replaced, ty_align}
use Rattle.printed_modules.proofs.ConstKept.{const_kept}
use Rattle.printed_modules.proofs.ModuleForms.{forms, body_forms, is_defined, declare_of, declared_forms, defined_forms, called_forms, intrinsics_forms, functions_forms, code_forms, parts_of, IsInner, body_inner, all_when}

-- what forms give one after another, up to places

abbrev vars_said : Units → ℕ → Form → List Var
vars_said us file says = map plain_var (vars_in true us file no_place says)

var_place : (us : Units) (file : ℕ) (place : Place) (says : Form) → map plain_var (vars_in true us file place says) ≡ vars_said us file says
var_place us file place (form.VariableForm name linkage constant ty init align attached) = refl
var_place us file place _ = refl

vars_by_forms : (us : Units) (file : ℕ) (vs : Units)
    → map plain_var (flat_map (vars_at true us file) vs) ≡ flat_map (vars_said us file) (forms vs)
vars_by_forms us file [] = refl
vars_by_forms us file (v ∷ vs) =
    map-append plain_var (vars_at true us file v) (flat_map (vars_at true us file) vs)
    ∙ (λ i. var_place us file v.place v.value.form i ++ vars_by_forms us file vs i)

abbrev tables_said : Form → List Jump
tables_said says = map plain_table (jumps_in no_place says)

table_place : (place : Place) (says : Form) → map plain_table (jumps_in place says) ≡ tables_said says
table_place place (form.TableForm name funcs) = refl
table_place place _ = refl

tables_by_forms : (vs : Units) → map plain_table (flat_map jumps_at vs) ≡ flat_map tables_said (forms vs)
tables_by_forms [] = refl
tables_by_forms (v ∷ vs) =
    map-append plain_table (jumps_at v) (flat_map jumps_at vs) ∙ (λ i. table_place v.place v.value.form i ++ tables_by_forms vs i)

-- forms that are no variable and no table

abbrev is_code : Form → Bool
is_code (form.VariableForm name linkage constant ty init align attached) = false
is_code (form.TableForm name funcs) = false
is_code _ = true

abbrev IsCode : Form → Type 0
IsCode says = is_code says ≡ true

inner_code : (says : Form) → IsInner says → IsCode says
inner_code (form.VariableForm name linkage constant ty init align attached) is = is
inner_code (form.TableForm name funcs) is = is
inner_code _ is = refl

no_vars : (us : Units) (file : ℕ) (says : Form) → IsCode says → vars_said us file says ≡ []
no_vars us file (form.VariableForm name linkage constant ty init align attached) is = absurd (true≢false (sym is))
no_vars us file _ is = refl

no_tables : (says : Form) → IsCode says → tables_said says ≡ []
no_tables (form.TableForm name funcs) is = absurd (true≢false (sym is))
no_tables _ is = refl

intrinsic_code : (intrinsic : Intrinsic) → IsCode (intrinsic_said intrinsic)
intrinsic_code Intrinsic.Rotation = refl
intrinsic_code Intrinsic.Trap = refl
intrinsic_code Intrinsic.CodedTrap = refl

called_code : (m : Module) (intrinsic : Intrinsic) → AllByRecursion IsCode (called_forms m intrinsic)
called_code m intrinsic = all_when IsCode (is_called intrinsic m.funcs) (intrinsic_said intrinsic ∷ []) (intrinsic_code intrinsic, tt)

functions_code : (m : Module) → AllByRecursion IsCode (functions_forms m)
functions_code m =
    all_joined IsCode (flat_map declared_forms m.funcs) (flat_map defined_forms m.funcs)
    (all_flat IsCode declared_forms (λ (f : Func). all_when IsCode (is_declared f) (declare_of f ∷ []) (refl, tt)) m.funcs)
    (all_flat IsCode defined_forms (λ (f : Func). all_when IsCode (is_defined f) (define_said f ∷ body_forms f.blocks)
    (refl, all_of IsInner IsCode inner_code (body_forms f.blocks) (body_inner f.blocks))) m.funcs)

code_code : (m : Module) → AllByRecursion IsCode (code_forms m)
code_code m =
    let traps = called_forms m Intrinsic.Trap ++ called_forms m Intrinsic.CodedTrap in
    all_joined IsCode (intrinsics_forms m) (functions_forms m)
    (all_joined IsCode (called_forms m Intrinsic.Rotation) traps (called_code m Intrinsic.Rotation)
    (all_joined IsCode (called_forms m Intrinsic.Trap) (called_forms m Intrinsic.CodedTrap) (called_code m Intrinsic.Trap)
    (called_code m Intrinsic.CodedTrap)))
    (functions_code m)

nothing_given : {X : Type 0} (f : Form → List X) (says : List Form) → AllByRecursion (λ one. f one ≡ []) says → flat_map f says ≡ []
nothing_given f [] all = refl
nothing_given f (one ∷ says) all = λ i. all.0 i ++ nothing_given f says all.1 i

-- each variable is read again

var_linkage : (linkage : Linkage) (type : Ty) (init : Option Const) → LinkageFits (has_no_init init) linkage
    → strong (linkage_of (is_none (init_said type init)) (content_word linkage init)) ≡ strong linkage
var_linkage External type None fits = refl
var_linkage Private type None fits = absurd (true≢false fits)
var_linkage Strong type None fits = absurd (true≢false fits)
var_linkage Weak type None fits = absurd (true≢false fits)
var_linkage External type (Some constant) fits = absurd (true≢false (sym fits))
var_linkage Private type (Some constant) fits = refl
var_linkage Strong type (Some constant) fits = refl
var_linkage Weak type (Some constant) fits = refl

var_init : (us : Units) (type : Ty) (init : Option Const) → IsTy type → IsInit type init → IsKeptInit init
    → init_of us type (init_said type init) ≡ init
var_init us type None of is keeps = refl
var_init us type (Some constant) of is keeps = ap Some (const_kept us levels levels type constant of is keeps)

pub no_entries : (us : Units) (file : ℕ) (init : Option Const) → entries_of us file (kept_attached init []) ≡ []
unfolding entries_of
no_entries us file None = refl
no_entries us file (Some constant) = refl

no_visibility : (us : Units) (init : Option Const) → visibility_of us (kept_attached init []) ≡ 0
unfolding visibility_of
no_visibility us None = refl
no_visibility us (Some constant) = refl

at_least : (n m k : ℕ) → n ≡ m → m ≤ k → max k n ≡ k
at_least n m k is least = omega (arith, is, least)

var_again : (us : Units) (file : ℕ) (v : Var) → IsVar v → IsKeptVar v → vars_said us file (var_said v) ≡ plain_var v ∷ []
var_again us file v is keeps =
    let init = init_said v.ty v.init in
    let linkage = var_linkage v.linkage v.ty v.init keeps.linkage in
    let type = ty_replaced us levels v.ty is.type in
    let inits = var_init us v.ty v.init is.type is.init keeps.init in
    let aligned = at_least (align us v.ty) (align [] v.ty) v.align (ty_align us levels v.ty is.type) keeps.align in
    let entries = no_entries us file init ∙ sym keeps.entries in
    let visibility = no_visibility us init ∙ sym keeps.visibility in
    λ i. record {
      place = no_place;
      name = v.name;
      linkage = linkage i;
      constant = v.constant;
      ty = type i;
      init = inits i;
      align = aligned i;
      entries = entries i;
      visibility = visibility i;
    } ∷ []

vars_again : (us : Units) (file : ℕ) (vs : List Var) → AllByRecursion IsVar vs → AllByRecursion IsKeptVar vs
    → flat_map (vars_said us file) (map var_said vs) ≡ map plain_var vs
vars_again us file [] are keep = refl
vars_again us file (v ∷ vs) are keep = λ i. var_again us file v are.0 keep.0 i ++ vars_again us file vs are.1 keep.1 i

vars_of_tables : (us : Units) (file : ℕ) (tables : List Jump) → flat_map (vars_said us file) (map table_said tables) ≡ []
vars_of_tables us file [] = refl
vars_of_tables us file (table ∷ tables) = vars_of_tables us file tables

tables_of_vars : (vs : List Var) → flat_map tables_said (map var_said vs) ≡ []
tables_of_vars [] = refl
tables_of_vars (v ∷ vs) = tables_of_vars vs

tables_again : (tables : List Jump) → flat_map tables_said (map table_said tables) ≡ map plain_table tables
tables_again [] = refl
tables_again (table ∷ tables) = ap (λ ts. plain_table table ∷ ts) (tables_again tables)

three_given : {X : Type 0} (f : Form → List X) (a b c : List Form) → flat_map f (a ++ (b ++ c)) ≡ flat_map f a ++ (flat_map f b ++ flat_map f c)
three_given f a b c = simp flat_map-append

-- the variables and tables of a module
pub vars_are : (us : Units) (file : ℕ) (m : Module) → AllByRecursion IsVar m.vars → AllByRecursion IsKeptVar m.vars → forms us ≡ parts_of m
    → map plain_var (flat_map (vars_at true us file) us) ≡ map plain_var m.vars
vars_are us file m are keep say =
    let f = vars_said us file in
    let code = code_forms m in
    let none = nothing_given f code (all_of IsCode (λ says. f says ≡ []) (no_vars us file) code (code_code m)) in
    vars_by_forms us file us ∙ ap (flat_map f) say ∙ three_given f (map var_said m.vars) (map table_said m.jumps) code
    ∙ (λ i. vars_again us file m.vars are keep i ++ (vars_of_tables us file m.jumps i ++ none i)) ∙ append-nil (map plain_var m.vars)

pub tables_are : (us : Units) (m : Module) → forms us ≡ parts_of m → map plain_table (flat_map jumps_at us) ≡ map plain_table m.jumps
tables_are us m say =
    let code = code_forms m in
    let none = nothing_given tables_said code (all_of IsCode (λ says. tables_said says ≡ []) no_tables code (code_code m)) in
    tables_by_forms us ∙ ap (flat_map tables_said) say ∙ three_given tables_said (map var_said m.vars) (map table_said m.jumps) code
    ∙ (λ i. tables_of_vars m.vars i ++ (tables_again m.jumps i ++ none i)) ∙ append-nil (map plain_table m.jumps)
