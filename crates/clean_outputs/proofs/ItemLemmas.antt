-- The variables, tables and functions of a file without flaws.
use Rattle.std.proofs.Common.{◌≡◌, refl, sym, ap, subst, ◌∙◌, arith, ℕ, ◌^◌, ◌<◌, ◌≤◌, max, Bool, true, false, not, cond, nat_lt, List, [], ◌∷◌, ◌++◌, codes, Option, Some, None, slice_get}
use Rattle.std.specs.Prelude.{IfSome}
use Rattle.std.specs.Prelude.{flat_map, is_none}
use Rattle.std.specs.List.{AllByRecursion}
use Rattle.std.specs.Int.{is_power_of_two}
use Rattle.std.proofs.lemmas.Bool.Decides.{nat_tests}
use Rattle.ltt_base.specs.declared.refusal.Code.TheVariants.{E06, E07, E12}
use Rattle.ltt_base.specs.declared.refusal.Place.{Place}
use Rattle.ltt_base.specs.declared.refusal.Placed.{Placed}
use Rattle.ir_values.specs.declared.types.Ty.{Ty}
use Rattle.ir_values.specs.declared.constants.Const.{Const}
use Rattle.ir_values.specs.declared.modules.Linkage.{Linkage}
use Rattle.ir_values.specs.declared.modules.Var.{Var}
use Rattle.ir_values.specs.declared.units.Attach.{Attach}
use Rattle.ir_values.specs.declared.units.Unit.{Unit as TheUnit}
use Rattle.ir_values.specs.declared.units.Form.{Form}
use Rattle.ir_values.specs.declared.units.Form.TheVariants.{VariableForm, TableForm}
use Rattle.type_grammar.specs.Levels.{levels}
use Rattle.check_names.specs.declared.spaces.Space.TheVariants.{Globals}
use Rattle.check_names.specs.Flaws.{◌then◌, each, when, worded_when}
use Rattle.check_names.specs.Spaces.{sign, first_unit, again_flaw, missing_flaw}
use Rattle.check_names.specs.Reserved.{reserved_flaw, intrinsic_flaw, definition_flaw, use_flaw}
use Rattle.check_types.specs.declared.places.Allowed.TheVariants.{NonVoid}
use Rattle.check_types.specs.Measures as measures
use Rattle.check_types.specs.Replaced.{replaced}
use Rattle.check_types.specs.Written.{type_flaw}
use Rattle.check_constants.specs.Intrinsics.{uncalled_flaw}
use Rattle.check_items.specs.Attached.{output_flaw, attached_flaw, is_type, is_visibility}
use Rattle.check_items.specs.Entries.{entry_in, entry_of, entries_of, level_in, visibility_of}
use Rattle.check_items.specs.Nodes.{node_items}
use Rattle.check_items.specs.Counts.{counts_before, variables_flaw}
use Rattle.check_items.specs.Items.{item_flaw, limits_flaw}
use Rattle.check_items.specs.Linkages.{linkage_flaw}
use Rattle.check_items.specs.Tables.{is_other_in, listed_flaw, form_flaw, table_flaw}
use Rattle.check_items.specs.Variables.{bare_flaw, init_flaw, align_flaw, own_attached_flaw, named_flaw, held_flaw, variable_flaw}
use Rattle.built_modules.specs.Linkages.{is_private, is_weak, linkage_of}
use Rattle.built_modules.specs.Variables.{written_align, init_of, kept_attached, var_of, vars_in, vars_at}
use Rattle.built_modules.specs.Modules.{jumps_in, jumps_at, module_of}
use Rattle.printed_units.specs.Written.{IsBytes, IsName, IsTy, IsInit, IsVar, IsTable}
use Rattle.printed_modules.specs.Printed.{LinkageFits, IsKeptInit, has_no_init, IsKeptVar}
use Rattle.printed_modules.proofs.TypeKept.{ty_align}
use Rattle.printed_modules.proofs.AlignLemmas.{ty_low}
use Rattle.sized_modules.proofs.FlawLemmas.{none_first, none_second, unbroken_word}
use Rattle.sized_modules.proofs.UnitLemmas.{Units, clean_item}
use Rattle.said_units.specs.Sayable.{IsSaidConst, IsSaid}
use Rattle.clean_outputs.specs.Shallow.{IsShallowTy}
use Rattle.clean_outputs.proofs.FileLemmas.{IsFile, said_at}
use Rattle.clean_outputs.proofs.NameLemmas.{free_name}
use Rattle.clean_outputs.proofs.ListedLemmas.{flat_got, flat_parts}
use Rattle.clean_outputs.proofs.TypeLemmas.{IsSoundPart, sound_of, sound_written, nonvoid_at}
use Rattle.clean_outputs.proofs.AlignLemmas.{replaced_align}
use Rattle.clean_outputs.proofs.ConstLemmas.{const_good}

pub record IsPrintedVar (v : Var) : Type 0 where
  pub written : IsVar v
  pub keeps : IsKeptVar v

-- linkages

weak_or_strong : (weak : Bool) → LinkageFits false (cond weak Linkage.Weak Linkage.Strong)
weak_or_strong true = refl
weak_or_strong false = refl

private_or_not : (hidden weak : Bool) → LinkageFits false (cond hidden Linkage.Private (cond weak Linkage.Weak Linkage.Strong))
private_or_not true weak = refl
private_or_not false weak = weak_or_strong weak

pub linkage_fits : (declared : Bool) (word : Option (List ℕ)) → LinkageFits declared (linkage_of declared word)
linkage_fits true word = refl
linkage_fits false None = refl
linkage_fits false (Some word) = private_or_not (is_private word) (is_weak word)

var_linkage : (us : Units) (type : Ty) (init : Option Const) (word : Option (List ℕ))
    → LinkageFits (has_no_init (init_of us type init)) (linkage_of (is_none init) word)
var_linkage us type None word = refl
var_linkage us type (Some constant) word = linkage_fits false word

-- an output has no attachment of a type, nor a visibility

untyped_attach : (type_kind visible_kind : Bool) → cond type_kind (worded_when true E07 (codes "!type"))
    (worded_when visible_kind E07 (codes "!vcall_visibility")) ≡ None
    → (type_kind ≡ false) × (visible_kind ≡ false)
untyped_attach true visible none = absurd (grind arith)
untyped_attach false true none = absurd (grind arith)
untyped_attach false false none = (refl, refl)

attach_entries : (us : Units) (file : ℕ) (attach : Attach) → is_type attach ≡ false → entry_of us file attach ≡ []
attach_entries us file attach other = ap (λ is. cond is (entry_in file (node_items us attach.node)) []) other

pub no_entries : (us : Units) (file : ℕ) (attached : List Attach) → each output_flaw attached ≡ None → entries_of us file attached ≡ []
unfolding entries_of
no_entries us file [] none = refl
no_entries us file (attach ∷ attached) none =
    let own = untyped_attach (is_type attach) (is_visibility attach) (none_first (output_flaw attach) (each output_flaw attached) none) in
    ap (λ entries. entries ++ flat_map (entry_of us file) attached) (attach_entries us file attach own.0)
    ∙ no_entries us file attached (none_second (output_flaw attach) (each output_flaw attached) none)

no_visibility : (us : Units) (attached : List Attach) → each output_flaw attached ≡ None → visibility_of us attached ≡ 0
unfolding visibility_of
no_visibility us [] none = refl
no_visibility us (attach ∷ attached) none =
    let own = untyped_attach (is_type attach) (is_visibility attach) (none_first (output_flaw attach) (each output_flaw attached) none) in
    ap (λ is. cond is (level_in (node_items us attach.node)) (visibility_of us attached)) own.1
    ∙ no_visibility us attached (none_second (output_flaw attach) (each output_flaw attached) none)

-- the attachments of a variable that count
attached_none : (us : Units) (type : Ty) (init : Option Const) (attached : List Attach) → own_attached_flaw true us type init attached ≡ None
    → each output_flaw (kept_attached init attached) ≡ None
unfolding attached_flaw
attached_none us type None attached none = refl
attached_none us type (Some constant) attached none = none

-- alignments

small_align : (align : Option (Option ℕ)) → align_flaw align ≡ None → written_align align ≤ 4096
small_align None none = omega arith
small_align (Some None) none = absurd (grind arith)
small_align (Some (Some bytes)) none =
    let fits = unbroken_word (nat_lt 4096 bytes) E12 (codes "align")
    (none_second (when (not (is_power_of_two bytes)) E06) (worded_when (nat_lt 4096 bytes) E12 (codes "align")) none) in
    grind (arith, nat_tests, fits)

greater_small : (a b : ℕ) → a ≤ 4096 → b ≤ 8 → max a b < 2 ^ 64
greater_small a b small low = omega (arith, small, low)

least_is : (a b : ℕ) → b ≤ max a b
least_is a b = omega arith

-- an initialiser

init_good : (us : Units) → IsFile us → (type : Ty) → IsSoundPart us type → IsTy (replaced us type) → (init : Option Const) → IfSome init
    (IsSaidConst type)
    → init_flaw true us type init ≡ None → IsInit (replaced us type) (init_of us type init) × IsKeptInit (init_of us type init)
init_good us of type sound written None said none = (tt, tt)
init_good us of type sound written (Some constant) said none = const_good us of levels type constant sound written said none

-- what is known of a variable

pub record IsCleanVar (us : Units) (at : ℕ) (name : List ℕ) (linkage : Option (List ℕ)) (type : Ty) (init : Option Const) (align : Option (Option ℕ))
    (attached : List Attach) : Type 0 where
  pub defined : definition_flaw true us at Globals name ≡ None
  pub plain : intrinsic_flaw name ≡ None
  pub typed : type_flaw true us false NonVoid type ≡ None
  pub init_none : init_flaw true us type init ≡ None
  pub align_none : align_flaw align ≡ None
  pub attached_none : own_attached_flaw true us type init attached ≡ None

clean_var : (us : Units) (at : ℕ) (name : List ℕ) (linkage : Option (List ℕ)) (constant : Bool) (type : Ty) (init : Option Const)
    (align : Option (Option ℕ)) (attached : List Attach) → item_flaw true us at (VariableForm name linkage constant type init align attached) ≡ None
    → IsCleanVar us at name linkage type init align attached
unfolding item_flaw
clean_var us at name linkage constant type init align attached none =
    let form = VariableForm name linkage constant type init align attached in
    let counts = counts_before us at in
    let own = variable_flaw true us at name linkage type init align attached in
    let behind = limits_flaw us at counts form in
    let of_own : own ≡ None = none_first own behind (none_second (variables_flaw counts) (own then behind) none) in
    let named = named_flaw true us at name linkage in
    let held = held_flaw true us linkage type init in
    let rest = align_flaw align then own_attached_flaw true us type init attached in
    let of_named : named ≡ None = none_first named (held then rest) of_own in
    let behind_named : held then rest ≡ None = none_second named (held then rest) of_own in
    let of_held : held ≡ None = none_first held rest behind_named in
    let of_rest : rest ≡ None = none_second held rest behind_named in
    let bare = bare_flaw linkage init in
    let definition = definition_flaw true us at Globals name in
    record {
      defined = none_first definition (intrinsic_flaw name then linkage_flaw linkage) of_named;
      plain = none_first (intrinsic_flaw name) (linkage_flaw linkage)
          (none_second definition (intrinsic_flaw name then linkage_flaw linkage) of_named);
      typed = none_first (type_flaw true us false NonVoid type) (bare then init_flaw true us type init) of_held;
      init_none = none_second bare (init_flaw true us type init)
          (none_second (type_flaw true us false NonVoid type) (bare then init_flaw true us type init) of_held);
      align_none = none_first (align_flaw align) (own_attached_flaw true us type init attached) of_rest;
      attached_none = none_second (align_flaw align) (own_attached_flaw true us type init attached) of_rest;
    }

-- the name of a definition
pub defined_named : (us : Units) (at : ℕ) (name : List ℕ) → IsBytes name → definition_flaw true us at Globals name ≡ None → IsName name
defined_named us at name bytes none =
    free_name (sign Globals) name bytes (none_second (again_flaw us at Globals name) (reserved_flaw true (sign Globals) name) none)

var_printed : (us : Units) → IsFile us → (file at : ℕ) (place : Place) (name : List ℕ) (linkage : Option (List ℕ)) (constant : Bool) (type : Ty)
    (init : Option Const)
    (align : Option (Option ℕ)) (attached : List Attach) → IsSaid (VariableForm name linkage constant type init align attached)
    → IsCleanVar us at name linkage type init align attached → IsShallowTy (replaced us type)
    → IsPrintedVar (var_of true us file place name linkage constant type init align attached)
var_printed us of file at place name linkage constant type init align attached said clean shallow =
    let sound = sound_of us NonVoid type refl said.1 clean.typed in
    let written = sound_written us of levels type sound shallow in
    let part : IsSoundPart us type = record { sound = sound; unvoid = nonvoid_at us type clean.typed } in
    let value = init_good us of type part written init said.2 clean.init_none in
    let low : measures.align us type ≤ 8 = subst (λ n. n ≤ 8) (replaced_align us of type sound) (ty_low us levels (replaced us type) written) in
    let same : measures.align us type ≡ measures.align [] (replaced us type) =
    sym (replaced_align us of type sound) ∙ ty_align us levels (replaced us type) written in
    let kept = attached_none us type init attached clean.attached_none in
    record {
      written = record {
        name = defined_named us at name said.0 clean.defined;
        type = written;
        init = value.0;
        align = greater_small (written_align align) (measures.align us type) (small_align align clean.align_none) low;
      };
      keeps = record {
        linkage = var_linkage us type init linkage;
        init = value.1;
        align = subst (λ n. n ≤ max (written_align align) (measures.align us type)) same (least_is (written_align align) (measures.align us type));
        entries = no_entries us file (kept_attached init attached) kept;
        visibility = no_visibility us (kept_attached init attached) kept;
      };
    }

var_at : (us : Units) → IsFile us → (file at : ℕ) (u : Placed TheUnit) → slice_get us at ≡ Some u → (says : Form) → u.value.form ≡ says
    → AllByRecursion (λ (v : Var). IsShallowTy v.ty) (vars_in true us file u.place says) → AllByRecursion IsPrintedVar
    (vars_in true us file u.place says)
var_at us of file at u here (VariableForm name linkage constant type init align attached) is shallow =
    let form = VariableForm name linkage constant type init align attached in
    let said = subst IsSaid is (said_at us of at u here) in
    let clean = clean_var us at name linkage constant type init align attached (clean_item true us at u form of.clean here is (λ spot. refl)) in
    (var_printed us of file at u.place name linkage constant type init align attached said clean shallow.0, tt)
var_at us of file at u here _ is shallow = tt

pub vars_printed : (us : Units) → IsFile us → (file : ℕ) → AllByRecursion (λ (v : Var). IsShallowTy v.ty) (module_of true us file).vars
    → AllByRecursion IsPrintedVar (module_of true us file).vars
unfolding module_of
vars_printed us of file shallow =
    flat_got IsPrintedVar (vars_at true us file) us
    (λ at u here. var_at us of file at u here u.value.form refl
    (flat_parts (λ (v : Var). IsShallowTy v.ty) (vars_at true us file) us shallow at u here))

-- tables

used_named : (us : Units) (name : List ℕ) → IsBytes name → use_flaw true us Globals name ≡ None → IsName name
used_named us name bytes none =
    free_name (sign Globals) name bytes (none_second (missing_flaw us Globals name) (reserved_flaw true (sign Globals) name) none)

listed_named : (us : Units) (names : List (List ℕ)) → AllByRecursion IsBytes names → each (listed_flaw true us) names ≡ None
    → AllByRecursion IsName names
listed_named us [] bytes none = tt
listed_named us (name ∷ names) bytes none =
    let own = none_first (listed_flaw true us name) (each (listed_flaw true us) names) none in
    let behind = when (is_other_in (first_unit Globals name us)) E06 then uncalled_flaw us name in (
      used_named us name bytes.0 (none_first (use_flaw true us Globals name) behind own),
      listed_named us names bytes.1 (none_second (listed_flaw true us name) (each (listed_flaw true us) names) none),
    )

clean_table : (us : Units) (at : ℕ) (name : List ℕ) (funcs : List (List ℕ)) → item_flaw true us at (TableForm name funcs) ≡ None
    → table_flaw true us at name funcs ≡ None
unfolding item_flaw
clean_table us at name funcs none = none

table_at : (us : Units) → IsFile us → (at : ℕ) (u : Placed TheUnit) → slice_get us at ≡ Some u → (says : Form) → u.value.form ≡ says
    → AllByRecursion IsTable (jumps_in u.place says)
table_at us of at u here (TableForm name funcs) is =
    let said = subst IsSaid is (said_at us of at u here) in
    let none = clean_table us at name funcs (clean_item true us at u (TableForm name funcs) of.clean here is (λ spot. refl)) in
    let definition = definition_flaw true us at Globals name in
    let listed = each (listed_flaw true us) funcs in
    let own = none_second (form_flaw true) (definition then listed) none in (
      record {
        name = defined_named us at name said.0 (none_first definition listed own);
        some = said.1;
        each = listed_named us funcs said.2 (none_second definition listed own);
      },
      tt,
    )
table_at us of at u here _ is = tt

pub tables_printed : (us : Units) → IsFile us → (file : ℕ) → AllByRecursion IsTable (module_of true us file).jumps
unfolding module_of
tables_printed us of file = flat_got IsTable jumps_at us (λ at u here. table_at us of at u here u.value.form refl)
