-- The lines of a module outside of its blocks are texts that say what they say.
use Rattle.std.proofs.Common.{◌≡◌, ℕ, ◌<◌, ◌^◌, Bool, true, false, List, [], ◌∷◌, ◌++◌, map, nat_lt, length, codes, refl, ◌∙◌, ap, Option, Some, None}
use Rattle.std.specs.List.{AllByRecursion}
use Rattle.ir_lex.specs.declared.token.Kind.TheVariants.{Global, Mark}
use Rattle.ir_values.specs.declared.types.Ty.{Ty, out-Ty}
use Rattle.ir_values.specs.declared.types.Ty.TheVariants as ty
use Rattle.ir_values.specs.declared.types.Width.TheVariants.{W8, W64}
use Rattle.ir_values.specs.declared.constants.Const.{Const}
use Rattle.ir_values.specs.declared.modules.Linkage.{Linkage}
use Rattle.ir_values.specs.declared.modules.Linkage.TheVariants.{Private}
use Rattle.ir_values.specs.declared.modules.Func.{Func}
use Rattle.ir_values.specs.declared.modules.Jump.{Jump}
use Rattle.ir_values.specs.declared.modules.Var.{Var}
use Rattle.ir_values.specs.declared.units.Form.TheVariants as form
use Rattle.head_grammar.specs.declared.kept.Kept.{Kept}
use Rattle.ir_print.specs.declared.intrinsics.Intrinsic.{Intrinsic}
use Rattle.unit_grammar.specs.Pieces.{Piece}
use Rattle.unit_grammar.specs.Signs.{of_kind, mark, passes}
use Rattle.unit_grammar.specs.Signs as signs
use Rattle.unit_grammar.specs.Grammar.{Is}
use Rattle.type_grammar.specs.Levels.{IsAt, levels}
use Rattle.type_grammar.specs.Numbers.{length_of}
use Rattle.word_grammar.specs.Places.{next_section, next_comdat, next_align, variable_places}
use Rattle.word_grammar.specs.Linkage.{other_linkage_words, other_linkage, maybe_other_linkage}
use Rattle.word_grammar.specs.Runs.{item_run}
use Rattle.head_grammar.specs.Heads.{declare_form, define_form}
use Rattle.head_grammar.specs.Variables as variables
use Rattle.head_grammar.specs.Variables.{kind_words, external, maybe_constant, initial, variable_of}
use Rattle.module_grammar.specs.Items.{label, close}
use Rattle.module_grammar.specs.Tables.{function, next_function, other_functions, functions, table}
use Rattle.printed_tokens.specs.Atoms.{Atom}
use Rattle.printed_tokens.specs.Looks.{Seen, seen, seen_of}
use Rattle.printed_units.specs.Written.{IsName, IsTy, IsInit, IsVar, IsTable, IsFunc}
use Rattle.printed_units.specs.Said.{linkage_word, content_word, init_said, var_said, table_said, intrinsic_said}
use Rattle.printed_units.specs.Printing.{space, newline, word, global, number, behind_comma, ty_atoms, const_atoms}
use Rattle.printed_units.specs.Printing as atoms
use Rattle.printed_units.specs.Lines.{linkage_atoms, content_linkage_atoms, kind_word, content_atoms, declare_atoms, intrinsic_atoms, var_line, table_line, declare_line, define_line, intrinsic_line, label_line, close_line}
use Rattle.ir_print.specs.ModuleText.{has_none}
use Rattle.printed_units.proofs.ConstUnits.{const_shows}
use Rattle.printed_units.proofs.TypeUnits.{ty_shows}
use Rattle.printed_units.proofs.WrittenLemmas.{int_is_ty, int_atoms, void_is_ty, trap_named, coded_trap_named, rotate_named, declared_params, defined_params}
use Rattle.printed_tokens.proofs.AtomLemmas.{seen_of_append}
use Rattle.printed_units.proofs.SeenLemmas.{let_by, starts_with, seen_split}
use Rattle.printed_units.proofs.ValueLemmas.{global_named, label_named, length_said}
use Rattle.printed_units.proofs.ShowLemmas.{just_shows, Shows, looks_show, unmapped, is_so, token_shows, skip_shows, both_show, mapped_shows, left_shows, right_shows, none_shows, some_shows, optional_none, run_none, ends_show, AreShown, some_show}
use Rattle.printed_units.proofs.OperandUnits.{global_shows}
use Rattle.printed_units.proofs.HeadUnits.{declare_shows, define_shows}

-- tables

functions_shown : (names : List (List ℕ)) → AllByRecursion IsName names →
    AreShown function (map (λ name. global name ∷ []) names) names
unfolding function
functions_shown [] are = tt
functions_shown (name ∷ names) (is, are) = (global_shows name is, functions_shown names are)

functions_show : (names : List (List ℕ)) → nat_lt 0 (length names) ≡ true → AllByRecursion IsName names →
    Shows functions (seen_of (atoms.listed (map (λ name. global name ∷ []) names))) (λ xs. xs ≡ names)
unfolding functions other_functions next_function
functions_show [] some are = absurd cc
functions_show (name ∷ names) some are =
    unmapped (some_show (global name ∷ []) (map (λ name. global name ∷ []) names) name names
    (functions_shown (name ∷ names) are))

pub table_shows : (t : Jump) → IsTable t → Shows table (seen_of (table_line t).atoms) (λ f. f ≡ table_said t)
unfolding table function
table_shows t is =
    mapped_shows (λ x has. rw (has.0, has.1) refl)
    (skip_shows refl (both_show refl (global_shows t.name is.name) (skip_shows refl (skip_shows refl (skip_shows refl
    (ends_show _ refl (seen_of_append (atoms.listed (map (λ name. global name ∷ []) t.funcs)) _)
    (functions_show t.funcs is.some is.each)))))))

-- functions

pub declare_line_shows : (f : Func) → IsFunc f → has_none f.blocks ≡ true →
    Shows declare_form (seen_of (declare_line f).atoms) (λ a. a ≡ (declare_line f).says)
declare_line_shows f is none =
    declare_shows f.name f.fty.result f.fty.params is.name is.result (declared_params f.blocks f.fty.params f.params none is.params)

pub define_line_shows : (f : Func) → IsFunc f → has_none f.blocks ≡ false →
    Shows define_form (seen_of (define_line f).atoms) (λ a. a ≡ (define_line f).says)
define_line_shows f is some = define_shows f is.name is.result (defined_params f.blocks f.fty.params f.params some is.params)

pub label_shows : (name : List ℕ) → IsName name → Shows label (seen_of (label_line name).atoms) (λ f. f ≡ form.LabelForm name)
unfolding label
label_shows name is = token_shows refl (λ t e. rw (label_named t name is e) refl)

pub close_shows : Shows close (seen_of close_line.atoms) (λ f. f ≡ form.CloseForm)
unfolding close
close_shows = token_shows refl (λ t e. refl)

-- intrinsics, which are declared as other functions are

rotation_as : intrinsic_atoms Intrinsic.Rotation
    ≡ declare_atoms (global (codes "llvm.fshr.i64")) (ty.Int W64) (ty.Int W64 ∷ ty.Int W64 ∷ ty.Int W64 ∷ [])
rotation_as = rw (int_atoms W64) refl

trap_as : intrinsic_atoms Intrinsic.Trap ≡ declare_atoms (global (codes "llvm.trap")) ty.Void []
unfolding levels out-Ty denote.Hole.Carrier.out
trap_as = refl

coded_trap_as : intrinsic_atoms Intrinsic.CodedTrap ≡ declare_atoms (global (codes "llvm.ubsantrap")) ty.Void (ty.Int W8 ∷ [])
unfolding levels out-Ty denote.Hole.Carrier.out
coded_trap_as = refl

pub intrinsic_shows : (i : Intrinsic) → Shows declare_form (seen_of (intrinsic_line i).atoms) (λ f. f ≡ intrinsic_said i)
intrinsic_shows Intrinsic.Rotation =
    let is = int_is_ty W64 in
    looks_show (ap seen_of rotation_as)
    (declare_shows _ (ty.Int W64) (ty.Int W64 ∷ ty.Int W64 ∷ ty.Int W64 ∷ []) rotate_named is (is, (is, (is, tt))))
intrinsic_shows Intrinsic.Trap = looks_show (ap seen_of trap_as) (declare_shows _ ty.Void [] trap_named void_is_ty tt)
intrinsic_shows Intrinsic.CodedTrap =
    looks_show (ap seen_of coded_trap_as) (declare_shows _ ty.Void (ty.Int W8 ∷ []) coded_trap_named void_is_ty (int_is_ty W8, tt))

-- variables

kind_shows : (constant : Bool) → Shows variables.kind (seen_of (word (kind_word constant) ∷ [])) (λ a. a ≡ constant)
unfolding variables.kind kind_words
kind_shows true = token_shows refl (λ t e. rw e refl)
kind_shows false = token_shows refl (λ t e. rw e refl)

other_linkage_shows : (own : Linkage) → Shows maybe_other_linkage (seen_of (linkage_atoms own)) (λ o. o ≡ linkage_word own)
unfolding maybe_other_linkage other_linkage other_linkage_words
other_linkage_shows Private = just_shows (token_shows refl (λ t e. e))
other_linkage_shows _ = none_shows

abbrev kept_atoms : Linkage → Bool → Ty → Option Const → List Atom
kept_atoms linkage constant type init = content_linkage_atoms linkage init ++ word (kind_word constant) ∷ space ∷ content_atoms type init

abbrev kept_said : Linkage → Bool → Ty → Option Const → Kept
kept_said linkage constant type init = record {
  linkage = content_word linkage init;
  constant = constant;
  ty = type;
  init = init_said type init;
}

kept_shows : (linkage : Linkage) (constant : Bool) (type : Ty) (init : Option Const) → IsTy type → IsInit type init →
    Shows variables.kept (seen_of (kept_atoms linkage constant type init)) (λ k. k ≡ kept_said linkage constant type init)
unfolding variables.kept external initial item_run maybe_constant
kept_shows linkage constant type None is none =
    left_shows (mapped_shows (λ x has. rw (has.0, has.1.1.0, has.1.1.1) refl)
    (both_show refl (token_shows {P = λ a. a ≡ codes "external"} refl (λ t e. e)) (both_show refl run_none
    (both_show refl (kind_shows constant) (ty_shows type is)))))
kept_shows linkage constant type (Some own) is at_own =
    right_shows (mapped_shows (λ x (linked, (none, (word, (typed, (bare, some, same))))). rw (linked, word, typed, some, same) refl)
    (both_show
    (seen_of_append (linkage_atoms linkage) (word (kind_word constant) ∷ space ∷ (ty_atoms type ++ space ∷ const_atoms type own)))
    (other_linkage_shows linkage) (both_show refl run_none (both_show refl (kind_shows constant)
    (both_show (seen_of_append (ty_atoms type) (space ∷ const_atoms type own)) (ty_shows type is)
    (some_shows (const_shows type own at_own)))))))

abbrev places_atoms : ℕ → List Atom
places_atoms align = behind_comma (word (codes "align") ∷ space ∷ number align ∷ newline ∷ [])

places_show : (align : ℕ) → align < 2 ^ 64 → Shows variable_places (seen_of (places_atoms align)) (λ a. a ≡ Some (Some align))
unfolding variable_places next_section next_comdat next_align
places_show align small =
    mapped_shows (λ x has. has.1.1) (both_show refl optional_none (both_show refl optional_none
    (just_shows (skip_shows refl (skip_shows refl
    (token_shows {P = λ a. a ≡ Some align} refl (λ t e. ap length_of e ∙ length_said align small)))))))

pub record IsComma (ts : List Piece) : Type 0 where
  pub token : Piece
  pub others : List Piece
  pub splits : ts ≡ token ∷ others
  pub passed : passes (mark (codes ",")) token ≡ true

-- the parts of a variable's line
pub record VarIs (v : Var) (ts : List Piece) : Type 0 where
  pub name : Piece
  pub sign : Piece
  pub front : List Piece
  pub back : List Piece
  pub splits : ts ≡ name ∷ sign ∷ (front ++ back)
  pub name_passes : passes (of_kind Global) name ≡ true
  pub sign_passes : passes (mark (codes "=")) sign ≡ true
  pub kept : Kept
  pub kept_is : Is (IsAt levels) variables.kept front kept
  pub comma : IsComma back
  pub places_is : Is (IsAt levels) variable_places back (Some (Some v.align))
  pub says : variable_of (signs.name Global name, (kept, (Some (Some v.align), []))) ≡ var_said v

starts_with_comma : (ts : List Piece) (looks : List Seen) → seen ts ≡ record { kind = Mark; bytes = codes "," } ∷ looks → IsComma ts
starts_with_comma ts looks e =
    let first = starts_with ts _ looks e in
    record {
      token = first.t;
      others = first.back;
      splits = first.splits;
      passed = let_by (mark (codes ",")) first.t Mark (codes ",") refl first.kind first.bytes;
    }

pub var_is : (v : Var) (ts : List Piece) → IsVar v → seen ts ≡ seen_of (var_line v).atoms → VarIs v ts
var_is v ts is e =
    let before = kept_atoms v.linkage v.constant v.ty v.init in
    let behind = places_atoms v.align in
    let first = starts_with ts _ _ e in
    let second = starts_with first.back _ _ first.rest in
    let parts = seen_split second.back (seen_of before) (seen_of behind) (second.rest ∙ seen_of_append before behind) in
    record {
      name = first.t;
      sign = second.t;
      front = parts.front;
      back = parts.back;
      splits = first.splits ∙ ap (λ us. first.t ∷ us) (second.splits ∙ ap (λ us. second.t ∷ us) parts.splits);
      name_passes = let_by (of_kind Global) first.t Global _ refl first.kind first.bytes;
      sign_passes = let_by (mark (codes "=")) second.t Mark _ refl second.kind second.bytes;
      kept = kept_said v.linkage v.constant v.ty v.init;
      kept_is = is_so (kept_shows v.linkage v.constant v.ty v.init is.type is.init) parts.front parts.before;
      comma = starts_with_comma parts.back _ parts.behind;
      places_is = is_so (places_show v.align is.align) parts.back parts.behind;
      says = rw (global_named first.t v.name is.name first.bytes) refl;
    }
