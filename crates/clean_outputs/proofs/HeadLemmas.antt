-- The heads of functions without flaws.
use Rattle.std.proofs.Common.{◌≡◌, refl, ap, ◌∙◌, arith, ℕ, ◌+◌, Bool, true, false, ◌&&◌, cond, List, [], ◌∷◌, map, codes, Option, Some, None}
use Rattle.std.specs.Prelude.{is_none}
use Rattle.std.specs.List.{AllByRecursion, AllZip}
use Rattle.std.specs.Str.{bytes_eq}
use Rattle.std.specs.Cmp.Lexicographic.{bytes_decides}
use Rattle.ltt_base.specs.declared.refusal.Code.TheVariants.{E07}
use Rattle.ir_values.specs.declared.types.Ty.{Ty}
use Rattle.ir_values.specs.declared.modules.Block.{Block}
use Rattle.ir_values.specs.declared.units.Param.{Param}
use Rattle.ir_values.specs.declared.units.Head.{Head}
use Rattle.ir_values.specs.declared.units.Form.TheVariants.{DeclareForm, DefineForm}
use Rattle.ir_print.specs.ModuleText.{has_none}
use Rattle.check_names.specs.declared.spaces.Space.TheVariants.{Globals}
use Rattle.check_names.specs.Flaws.{◌then◌, each, worded_when}
use Rattle.check_names.specs.Reserved.{is_intrinsic, reserved_flaw, intrinsic_flaw, definition_flaw}
use Rattle.ir_names.specs.Words.{named_word}
use Rattle.check_bodies.specs.Numbers.{behind_name, name_or}
use Rattle.check_bodies.specs.Names.{parameters}
use Rattle.check_bodies.specs.Bodies.{head_flaw}
use Rattle.check_types.specs.declared.places.Allowed.TheVariants.{Returned, Scalar}
use Rattle.check_types.specs.Written.{type_flaw}
use Rattle.check_constants.specs.declared.intrinsics.Intrinsic.{Intrinsic}
use Rattle.check_constants.specs.declared.intrinsics.Intrinsic.TheVariants.{Trap, CodedTrap, Rotate}
use Rattle.check_constants.specs.Intrinsics.{intrinsic_of}
use Rattle.check_items.specs.Attached.{output_flaw, attached_flaw, declared_flaw}
use Rattle.check_items.specs.Counts.{counts_before, functions_flaw}
use Rattle.check_items.specs.Functions.{words_flaw, param_flaw, params_flaw, rest_flaw, body_head_flaw, define_flaw, left_flaw, is_left, signature_flaw, typed_head_flaw, declared_head_flaw, declare_flaw}
use Rattle.check_items.specs.Items.{item_flaw, limits_flaw}
use Rattle.check_items.specs.Linkages.{linkage_flaw}
use Rattle.built_modules.specs.Functions.{param_types, param_names}
use Rattle.printed_units.specs.Written.{IsName, IsTy, AreParams}
use Rattle.sized_modules.proofs.FlawLemmas.{none_first, none_second, unbroken_word, clash}
use Rattle.sized_modules.proofs.UnitLemmas.{Units}
use Rattle.said_units.specs.Sayable.{IsSaidParam}
use Rattle.clean_outputs.proofs.FileLemmas.{IsFile}
use Rattle.clean_outputs.proofs.NameLemmas.{name_or_free}
use Rattle.clean_outputs.proofs.TypeLemmas.{scalar_at}

-- a name that isn't an intrinsic's is none of those that an output may use

other_text : (name text : List ℕ) → is_intrinsic name ≡ false → is_intrinsic text ≡ true → (b : Bool) → bytes_eq name text ≡ b → b ≡ false
other_text name text plain begins false is = refl
other_text name text plain begins true is = clash (is_intrinsic name) (ap is_intrinsic ((bytes_decides name text).0 is) ∙ begins) plain

none_of_three : (one two three : Bool) → one ≡ false → two ≡ false → three ≡ false
    → cond one (Some Trap) (cond two (Some CodedTrap) (cond three (Some Rotate) None)) ≡ None
none_of_three false false false first second third = refl
none_of_three true two three first second third = absurd (grind arith)
none_of_three false true three first second third = absurd (grind arith)
none_of_three false false true first second third = absurd (grind arith)

pub no_intrinsic : (name : List ℕ) → is_intrinsic name ≡ false → intrinsic_of true name ≡ None
no_intrinsic name plain =
    let trap = codes "llvm.trap" in
    let coded = codes "llvm.ubsantrap" in
    let rotate = codes "llvm.fshr.i64" in
    none_of_three (bytes_eq name trap) (bytes_eq name coded) (bytes_eq name rotate) (other_text name trap plain refl (bytes_eq name trap) refl)
    (other_text name coded plain refl (bytes_eq name coded) refl) (other_text name rotate plain refl (bytes_eq name rotate) refl)

-- parameters

abbrev pub ArePrintedParams : List Ty → List (List ℕ) → Type 0
ArePrintedParams types names = AllZip (λ type param. IsTy type × IsName param) types names

params_from : (us : Units) → IsFile us → (at next : ℕ) (params : List Param) → AllByRecursion IsSaidParam params
    → params_flaw true us false None at next params ≡ None
    → ArePrintedParams (param_types us params) (map (λ defined. defined.name) (parameters at next params))
params_from us of at next [] said none = tt
params_from us of at next (param ∷ params) said none =
    let own = param_flaw true us false Scalar next param in
    let others = params_flaw true us false None (at + 1) (behind_name next param.name) params in
    let of_own : own ≡ None = none_first own others none in
    let typed = type_flaw true us false Scalar param.ty in
    let reserved = reserved_flaw true (codes "%") (name_or next param.name) in
    let named : words_flaw param.left then reserved ≡ None = none_second typed (words_flaw param.left then reserved) of_own in
    let type = scalar_at us of param.ty said.0.type (none_first typed (words_flaw param.left then reserved) of_own) in
    let name = name_or_free next param.name said.0.name (none_second (words_flaw param.left) reserved named) in
    ((type.0, name), params_from us of (at + 1) (behind_name next param.name) params said.1 (none_second own others none))

pub types_of : (types : List Ty) (names : List (List ℕ)) → ArePrintedParams types names → AllByRecursion IsTy types
types_of [] names all = tt
types_of (type ∷ types) [] all = absurd all
types_of (type ∷ types) (name ∷ names) all = (all.0.0, types_of types names all.1)

-- those of a function that has a block
pub params_of_blocks : (blocks : List Block) → has_none blocks ≡ false → (types : List Ty) (names : List (List ℕ)) → ArePrintedParams types names
    → AreParams blocks types names
params_of_blocks [] some types names all = absurd (grind arith)
params_of_blocks (block ∷ blocks) some types names all = all

-- what is known of a head

pub record IsCleanHead (us : Units) (at : ℕ) (own : Head) : Type 0 where
  pub defined : definition_flaw true us at Globals own.name ≡ None
  pub result_none : type_flaw true us false Returned own.result ≡ None
  pub rest_none : rest_flaw true us false None own ≡ None

-- its parameters
pub params_good : (us : Units) → IsFile us → (at : ℕ) (own : Head) → AllByRecursion IsSaidParam own.params → IsCleanHead us at own
    → ArePrintedParams (param_types us own.params) (param_names own.params)
params_good us of at own said clean =
    params_from us of 0 0 own.params said
    (none_first (params_flaw true us false None 0 0 own.params) (worded_when own.dots E07 (codes "...") then words_flaw own.left) clean.rest_none)

-- that of a definition
pub record IsCleanDefinition (us : Units) (at : ℕ) (own : Head) : Type 0 where
  pub clean : IsCleanHead us at own
  pub plain : is_intrinsic own.name ≡ false
  pub attached_none : each output_flaw own.attached ≡ None

body_head : (us : Units) (at : ℕ) (own : Head) → body_head_flaw true us at own ≡ None → IsCleanHead us at own × (is_intrinsic own.name ≡ false)
body_head us at own none =
    let typed = type_flaw true us false Returned own.result in
    let definition = definition_flaw true us at Globals own.name in
    let plain = intrinsic_flaw own.name in
    let rest = rest_flaw true us false None own in
    let named : definition then (plain then rest) ≡ None = none_second typed (definition then (plain then rest)) none in
    let behind : plain then rest ≡ None = none_second definition (plain then rest) named in (
      record {
        defined = none_first definition (plain then rest) named;
        result_none = none_first typed (definition then (plain then rest)) none;
        rest_none = none_second plain rest behind;
      },
      unbroken_word (is_intrinsic own.name) E07 (named_word (codes "@") own.name) (none_first plain rest behind),
    )

output_attached : (us : Units) (own : Head) → attached_flaw true us None own.attached ≡ None → each output_flaw own.attached ≡ None
unfolding attached_flaw
output_attached us own none = none

pub clean_define : (us : Units) (at : ℕ) (own : Head) → item_flaw true us at (DefineForm own) ≡ None → IsCleanDefinition us at own
unfolding item_flaw
clean_define us at own none =
    let form = DefineForm own in
    let counts = counts_before us at in
    let whole = define_flaw true us at own form in
    let behind = limits_flaw us at counts form in
    let of_whole : whole ≡ None = none_first whole behind (none_second (functions_flaw counts form) (whole then behind) none) in
    let body = body_head_flaw true us at own in
    let names = head_flaw us at form in
    let attached = attached_flaw true us None own.attached in
    let unlinked : body then (names then attached) ≡ None = none_second (linkage_flaw own.linkage) (body then (names then attached)) of_whole in
    let has = body_head us at own (none_first body (names then attached) unlinked) in
    record {
      clean = has.0;
      plain = has.1;
      attached_none = output_attached us own (none_second names attached (none_second body (names then attached) unlinked));
    }

-- that of a declaration of a function

typed_head : (us : Units) (at : ℕ) (own : Head) (quiet : Bool) (intrinsic : Option Intrinsic) → quiet ≡ false → intrinsic ≡ None
    → typed_head_flaw true us at quiet intrinsic own ≡ None → IsCleanHead us at own
typed_head us at own true intrinsic loud other none = absurd (grind arith)
typed_head us at own false (Some found) loud other none = absurd (grind arith)
typed_head us at own false None loud other none =
    let typed = type_flaw true us false Returned own.result in
    let definition = definition_flaw true us at Globals own.name in
    let left = left_flaw true own.name in
    let rest = rest_flaw true us false None own in
    let signature = signature_flaw us None own in
    let named : definition then (left then (rest then signature)) ≡ None =
    none_second typed (definition then (left then (rest then signature))) none in
    let behind : left then (rest then signature) ≡ None = none_second definition (left then (rest then signature)) named in
    record {
      defined = none_first definition (left then (rest then signature)) named;
      result_none = none_first typed (definition then (left then (rest then signature))) none;
      rest_none = none_first rest signature (none_second left (rest then signature) behind);
    }

not_left : (name : List ℕ) → is_intrinsic name ≡ false → is_left true name ≡ false
not_left name plain = ap (λ is. is && is_none (intrinsic_of true name)) plain

pub clean_declare : (us : Units) (at : ℕ) (own : Head) → is_intrinsic own.name ≡ false → item_flaw true us at (DeclareForm own) ≡ None
    → IsCleanHead us at own
unfolding item_flaw
clean_declare us at own plain none =
    let form = DeclareForm own in
    let counts = counts_before us at in
    let whole = declare_flaw true us at own form in
    let of_whole : whole ≡ None = none_second (functions_flaw counts form) whole none in
    let typed = declared_head_flaw true us at own in
    let names = head_flaw us at form in
    let rest = linkage_flaw own.linkage then (typed then names) in
    let linked : rest ≡ None = none_second (declared_flaw true own.attached) rest of_whole in
    let unlinked : typed then names ≡ None = none_second (linkage_flaw own.linkage) (typed then names) linked in
    typed_head us at own (is_left true own.name) (intrinsic_of true own.name) (not_left own.name plain) (no_intrinsic own.name plain)
    (none_first typed names unlinked)
