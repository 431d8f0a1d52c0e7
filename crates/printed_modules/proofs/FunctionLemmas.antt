-- The functions of units that say what the lines of a printed module say.
use Rattle.std.proofs.Common.{◌≡◌, refl, ◌∙◌, ap, sym, subst, true≢false, ℕ, ◌+◌, Bool, true, false, not, cond, if◌then◌else◌, List, [], ◌∷◌, ◌++◌, map, length, None, append_assoc, length-append, arith}
use Rattle.std.specs.Prelude.{flat_map, filter}
use Rattle.std.specs.List.{AllByRecursion}
use Rattle.std.proofs.lemmas.List.{map-append}
use Rattle.ltt_base.specs.declared.refusal.Place.{Place}
use Rattle.ir_values.specs.declared.types.Ty.{Ty}
use Rattle.ir_values.specs.declared.modules.Linkage.{Linkage}
use Rattle.ir_values.specs.declared.modules.Linkage.TheVariants.{Private, Strong, Weak, External}
use Rattle.ir_values.specs.declared.modules.Block.{Block}
use Rattle.ir_values.specs.declared.modules.Func.{Func}
use Rattle.ir_values.specs.declared.modules.Module.{Module}
use Rattle.ir_values.specs.declared.units.Form.{Form}
use Rattle.ir_values.specs.declared.units.Form.TheVariants as form
use Rattle.ir_print.specs.declared.intrinsics.Intrinsic.{Intrinsic}
use Rattle.ir_print.specs.ModuleText.{is_called, has_none}
use Rattle.type_grammar.specs.Levels.{levels}
use Rattle.check_names.specs.Reserved.{is_intrinsic}
use Rattle.check_bodies.specs.Names.{parameters}
use Rattle.built_modules.specs.Linkages.{linkage_of}
use Rattle.built_modules.specs.Blocks.{body_blocks}
use Rattle.built_modules.specs.Functions.{param_types, declared, funcs_in, funcs_from}
use Rattle.printed_units.specs.Said.{linkage_word, unnamed, params_said, var_said, table_said, define_said, intrinsic_said}
use Rattle.printed_units.specs.Written.{IsTy, IsFunc}
use Rattle.printed_modules.specs.Printed.{is_declared, LinkageFits, IsKeptFunc, no_place, strong, positions, plain_func}
use Rattle.printed_units.proofs.ListLemmas.{all_joined, all_of}
use Rattle.printed_units.proofs.WrittenLemmas.{AreNamed, declared_params, defined_params}
use Rattle.printed_modules.proofs.TypeKept.{Units, ty_replaced}
use Rattle.printed_modules.proofs.ModuleForms.{forms, forms_when, body_forms, is_defined, declare_head, declare_of, define_head, declared_forms, defined_forms, called_forms, intrinsics_forms, functions_forms, parts_of, IsInner, body_inner, all_when}
use Rattle.printed_modules.proofs.ItemLemmas.{no_entries}
use Rattle.printed_modules.proofs.BodyLemmas.{AreAgain, body_is}

-- what forms give one after another, up to places

abbrev funcs_said : Units → ℕ → ℕ → Form → List Func
funcs_said us file at says = map plain_func (funcs_in true us file at no_place says)

all_said : Units → ℕ → ℕ → List Form → List Func
all_said us file at [] = []
all_said us file at (one ∷ says) = funcs_said us file at one ++ all_said us file (at + 1) says

func_place : (us : Units) (file at : ℕ) (place : Place) (says : Form)
    → map plain_func (funcs_in true us file at place says) ≡ funcs_said us file at says
func_place us file at place (form.DeclareForm head) =
    elim (is_intrinsic head.name) as (λ b. map plain_func (cond b [] (declared us place head ∷ []))
    ≡ map plain_func (cond b [] (declared us no_place head ∷ []))) [
      | true ↦ refl
      | false ↦ refl
    ]
func_place us file at place (form.DefineForm head) = refl
func_place us file at place _ = refl

funcs_by_forms : (us : Units) (file at : ℕ) (vs : Units) → map plain_func (funcs_from true us file at vs) ≡ all_said us file at (forms vs)
unfolding funcs_from all_said
funcs_by_forms us file at [] = refl
funcs_by_forms us file at (v ∷ vs) =
    map-append plain_func (funcs_in true us file at v.place v.value.form) (funcs_from true us file (at + 1) vs)
    ∙ (λ i. func_place us file at v.place v.value.form i ++ funcs_by_forms us file (at + 1) vs i)

-- forms that give no function

abbrev HasNone : Units → ℕ → Form → Type 0
HasNone us file says = (at : ℕ) → funcs_said us file at says ≡ []

inner_none : (us : Units) (file : ℕ) (says : Form) → IsInner says → HasNone us file says
inner_none us file (form.DeclareForm head) is at = absurd (true≢false (sym is))
inner_none us file (form.DefineForm head) is at = absurd (true≢false (sym is))
inner_none us file _ is at = refl

intrinsic_none : (us : Units) (file : ℕ) (intrinsic : Intrinsic) → HasNone us file (intrinsic_said intrinsic)
intrinsic_none us file Intrinsic.Rotation at = refl
intrinsic_none us file Intrinsic.Trap at = refl
intrinsic_none us file Intrinsic.CodedTrap at = refl

mapped_none : {X : Type 0} (P : Form → Type 0) (f : X → Form) → ((x : X) → P (f x)) → (xs : List X) → AllByRecursion P (map f xs)
mapped_none P f each [] = tt
mapped_none P f each (x ∷ xs) = (each x, mapped_none P f each xs)

called_none : (us : Units) (file : ℕ) (m : Module) (intrinsic : Intrinsic) → AllByRecursion (HasNone us file) (called_forms m intrinsic)
called_none us file m intrinsic =
    all_when (HasNone us file) (is_called intrinsic m.funcs) (intrinsic_said intrinsic ∷ []) (intrinsic_none us file intrinsic, tt)

-- the forms of variables, tables and intrinsics
abbrev other_forms : Module → List Form
other_forms m = map var_said m.vars ++ (map table_said m.jumps ++ intrinsics_forms m)

others_none : (us : Units) (file : ℕ) (m : Module) → AllByRecursion (HasNone us file) (other_forms m)
others_none us file m =
    let none = HasNone us file in
    let traps = called_forms m Intrinsic.Trap ++ called_forms m Intrinsic.CodedTrap in
    all_joined none (map var_said m.vars) (map table_said m.jumps ++ intrinsics_forms m) (mapped_none none var_said (λ v at. refl) m.vars)
    (all_joined none (map table_said m.jumps) (intrinsics_forms m) (mapped_none none table_said (λ table at. refl) m.jumps)
    (all_joined none (called_forms m Intrinsic.Rotation) traps (called_none us file m Intrinsic.Rotation)
    (all_joined none (called_forms m Intrinsic.Trap) (called_forms m Intrinsic.CodedTrap) (called_none us file m Intrinsic.Trap)
    (called_none us file m Intrinsic.CodedTrap))))

behind_none : (us : Units) (file at : ℕ) (says others : List Form) → AllByRecursion (HasNone us file) says
    → all_said us file at (says ++ others) ≡ all_said us file (at + length says) others
unfolding all_said
behind_none us file at [] others none = let same : at ≡ at + 0 = omega arith in ap (λ n. all_said us file n others) same
behind_none us file at (one ∷ says) others none =
    let count : at + 1 + length says ≡ at + length (one ∷ says) = omega arith in
    (λ i. none.0 at i ++ behind_none us file (at + 1) says others none.1 i) ∙ ap (λ n. all_said us file n others) count

-- a function is read again

-- what is known of a function of the module
pub record IsReady (us : Units) (file : ℕ) (funcs : List Func) (f : Func) : Type 0 where
  pub is : IsFunc f
  pub keeps : IsKeptFunc funcs f
  pub plain : is_intrinsic f.name ≡ false
  pub again : AreAgain us file f.blocks

declared_linkage : (linkage : Linkage) → LinkageFits true linkage → External ≡ linkage
declared_linkage External fits = refl
declared_linkage Private fits = absurd (true≢false fits)
declared_linkage Strong fits = absurd (true≢false fits)
declared_linkage Weak fits = absurd (true≢false fits)

defined_linkage : (linkage : Linkage) → LinkageFits false linkage → strong (linkage_of false (linkage_word linkage)) ≡ strong linkage
defined_linkage External fits = absurd (true≢false (sym fits))
defined_linkage Private fits = refl
defined_linkage Strong fits = refl
defined_linkage Weak fits = refl

no_blocks : (blocks : List Block) → has_none blocks ≡ true → [] ≡ blocks
no_blocks [] none = refl
no_blocks (block ∷ blocks) none = absurd (true≢false (sym none))

unnamed_types : (us : Units) (types : List Ty) → AllByRecursion IsTy types → param_types us (unnamed types) ≡ types
unnamed_types us [] are = refl
unnamed_types us (type ∷ types) are = λ i. ty_replaced us levels type are.0 i ∷ unnamed_types us types are.1 i

named_types : (us : Units) (types : List Ty) (names : List (List ℕ)) → AreNamed types names → param_types us (params_said types names) ≡ types
named_types us [] [] are = refl
named_types us (type ∷ types) (name ∷ names) are = λ i. ty_replaced us levels type are.0.0 i ∷ named_types us types names are.1 i
named_types us _ _ are = absurd are

names_again : (at next : ℕ) (types : List Ty) (names : List (List ℕ)) → AreNamed types names
    → map (λ given. given.name) (parameters at next (params_said types names)) ≡ names
names_again at next [] [] are = refl
names_again at next (type ∷ types) (name ∷ names) are = ap (λ ns. name ∷ ns) (names_again (at + 1) _ types names are.1)
names_again at next _ _ are = absurd are

declared_again : (us : Units) (file at : ℕ) (funcs : List Func) (f : Func) → IsReady us file funcs f → is_declared f ≡ true
    → funcs_said us file at (declare_of f) ≡ plain_func f ∷ []
declared_again us file at funcs f ready none =
    let types = unnamed_types us f.fty.params (declared_params f.blocks f.fty.params f.params none ready.is.params) in
    let result = ty_replaced us levels f.fty.result ready.is.result in
    let linkage = declared_linkage f.linkage (subst (λ b. LinkageFits b f.linkage) none ready.keeps.linkage) in
    let blocks = no_blocks f.blocks none in
    let params : positions 0 f.fty.params ≡ (if has_none f.blocks then positions 0 f.fty.params else f.params) =
    ap (λ b. if b then positions 0 f.fty.params else f.params) (sym none) in
    let entries = sym ready.keeps.entries in
    ap (λ b. map plain_func (cond b [] (declared us no_place (declare_head f) ∷ []))) ready.plain
    ∙ (λ i. record {
      place = no_place;
      name = f.name;
      linkage = strong (linkage i);
      fty = record { result = result i; params = types i };
      params = (ap (positions 0) types ∙ params) i;
      blocks = blocks i;
      entries = entries i;
    } ∷ [])

defined_again : (us : Units) (file at : ℕ) (funcs : List Func) (f : Func) → IsReady us file funcs f → is_declared f ≡ false
    → body_blocks true us file at ≡ f.blocks → funcs_said us file at (define_said f) ≡ plain_func f ∷ []
defined_again us file at funcs f ready some blocks =
    let named = defined_params f.blocks f.fty.params f.params some ready.is.params in
    let types = named_types us f.fty.params f.params named in
    let names = names_again 0 0 f.fty.params f.params named in
    let result = ty_replaced us levels f.fty.result ready.is.result in
    let linkage = defined_linkage f.linkage (subst (λ b. LinkageFits b f.linkage) some ready.keeps.linkage) in
    let entries = no_entries us file None ∙ sym ready.keeps.entries in
    λ i. record {
      place = no_place;
      name = f.name;
      linkage = linkage i;
      fty = record { result = result i; params = types i };
      params = if has_none (blocks i) then positions 0 (types i) else names i;
      blocks = blocks i;
      entries = entries i;
    } ∷ []

-- all functions: those that are declared, and then those that are defined

declared_step : (us : Units) (file at : ℕ) (funcs : List Func) (f : Func) (fs : List Func) (others : List Form) → IsReady us file funcs f
    → ((n : ℕ) → all_said us file n (flat_map declared_forms fs ++ others)
    ≡ map plain_func (filter is_declared fs) ++ all_said us file (n + length (flat_map declared_forms fs)) others)
    → (b : Bool) → is_declared f ≡ b
    → all_said us file at ((forms_when b (declare_of f ∷ []) ++ flat_map declared_forms fs) ++ others)
    ≡ map plain_func (cond b (f ∷ filter is_declared fs) (filter is_declared fs))
    ++ all_said us file (at + length (forms_when b (declare_of f ∷ []) ++ flat_map declared_forms fs)) others
unfolding all_said
declared_step us file at funcs f fs others ready rest true is =
    let count : at + 1 + length (flat_map declared_forms fs) ≡ at + length (declare_of f ∷ flat_map declared_forms fs) = omega arith in
    (λ i. declared_again us file at funcs f ready is i ++ rest (at + 1) i)
    ∙ ap (λ n. plain_func f ∷ map plain_func (filter is_declared fs) ++ all_said us file n others) count
declared_step us file at funcs f fs others ready rest false is = rest at

all_declared : (us : Units) (file : ℕ) (funcs fs : List Func) (others : List Form) → AllByRecursion (IsReady us file funcs) fs → (at : ℕ)
    → all_said us file at (flat_map declared_forms fs ++ others)
    ≡ map plain_func (filter is_declared fs) ++ all_said us file (at + length (flat_map declared_forms fs)) others
all_declared us file funcs [] others ready at = let same : at ≡ at + 0 = omega arith in ap (λ n. all_said us file n others) same
all_declared us file funcs (f ∷ fs) others ready at =
    declared_step us file at funcs f fs others ready.0 (all_declared us file funcs fs others ready.1) (is_declared f) refl

abbrev SayDefined : Units → ℕ → List Func → Type 0
SayDefined us file fs = (before : List Form) → forms us ≡ before ++ flat_map defined_forms fs
    → all_said us file (length before) (flat_map defined_forms fs) ≡ map plain_func (filter is_defined fs)

defined_step : (us : Units) (file : ℕ) (funcs : List Func) (f : Func) (fs : List Func) → IsReady us file funcs f → SayDefined us file fs
    → (declared : Bool) → is_declared f ≡ declared → (before : List Form)
    → forms us ≡ before ++ (forms_when (not declared) (define_said f ∷ body_forms f.blocks) ++ flat_map defined_forms fs)
    → all_said us file (length before) (forms_when (not declared) (define_said f ∷ body_forms f.blocks) ++ flat_map defined_forms fs)
    ≡ map plain_func (cond (not declared) (f ∷ filter is_defined fs) (filter is_defined fs))
unfolding all_said
defined_step us file funcs f fs ready rest true is before say = rest before say
defined_step us file funcs f fs ready rest false is before say =
    let own = define_said f ∷ body_forms f.blocks in
    let others = flat_map defined_forms fs in
    let at = length before in
    let blocks = body_is us file before (define_head f) f.blocks others say ready.is.blocks ready.again in
    let none = all_of IsInner (HasNone us file) (inner_none us file) (body_forms f.blocks) (body_inner f.blocks) in
    let long = length-append before own in
    let count : at + 1 + length (body_forms f.blocks) ≡ length (before ++ own) = omega (arith, long) in
    (λ i. defined_again us file at funcs f ready is blocks i ++ behind_none us file (at + 1) (body_forms f.blocks) others none i)
    ∙ ap (λ n. plain_func f ∷ all_said us file n others) count
    ∙ ap (λ fs. plain_func f ∷ fs) (rest (before ++ own) (say ∙ sym (append_assoc before own others)))

all_defined : (us : Units) (file : ℕ) (funcs fs : List Func) → AllByRecursion (IsReady us file funcs) fs → SayDefined us file fs
unfolding all_said
all_defined us file funcs [] ready before say = refl
all_defined us file funcs (f ∷ fs) ready before say =
    defined_step us file funcs f fs ready.0 (all_defined us file funcs fs ready.1) (is_declared f) refl before say

-- the functions of a module
pub funcs_are : (us : Units) (file : ℕ) (m : Module) → AllByRecursion (IsReady us file m.funcs) m.funcs
    → m.funcs ≡ filter is_declared m.funcs ++ filter is_defined m.funcs → forms us ≡ parts_of m
    → map plain_func (funcs_from true us file 0 us) ≡ map plain_func m.funcs
funcs_are us file m ready order say =
    let items = map var_said m.vars in
    let front = other_forms m in
    let first = flat_map declared_forms m.funcs in
    let second = flat_map defined_forms m.funcs in
    let split : parts_of m ≡ front ++ functions_forms m =
    ap (λ fs. items ++ fs) (sym (append_assoc (map table_said m.jumps) (intrinsics_forms m) (functions_forms m)))
    ∙ sym (append_assoc items (map table_said m.jumps ++ intrinsics_forms m) (functions_forms m)) in
    let long = length-append front first in
    let count : 0 + length front + length first ≡ length (front ++ first) = omega (arith, long) in
    funcs_by_forms us file 0 us ∙ ap (all_said us file 0) (say ∙ split)
    ∙ behind_none us file 0 front (functions_forms m) (others_none us file m)
    ∙ all_declared us file m.funcs m.funcs second ready (0 + length front)
    ∙ ap (λ n. map plain_func (filter is_declared m.funcs) ++ all_said us file n second) count
    ∙ ap (λ fs. map plain_func (filter is_declared m.funcs) ++ fs)
    (all_defined us file m.funcs m.funcs ready (front ++ first) (say ∙ split ∙ sym (append_assoc front first second)))
    ∙ sym (map-append plain_func (filter is_declared m.funcs) (filter is_defined m.funcs)) ∙ ap (map plain_func) (sym order)
