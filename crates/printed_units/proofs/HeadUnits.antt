-- How the heads of functions show themselves.
use Rattle.std.proofs.Common.{◌≡◌, ℕ, Bool, true, false, List, [], ◌∷◌, ◌++◌, map, map-id, codes, refl, sym, ◌∙◌, append_assoc, Option, Some, None}
use Rattle.std.specs.List.{AllByRecursion}
use Rattle.ir_values.specs.declared.types.Ty.{Ty}
use Rattle.ir_values.specs.declared.modules.Linkage.{Linkage}
use Rattle.ir_values.specs.declared.modules.Linkage.TheVariants.{Private}
use Rattle.ir_values.specs.declared.modules.Func.{Func}
use Rattle.ir_values.specs.declared.units.Param.{Param}
use Rattle.head_grammar.specs.declared.begun.Begun.{Begun}
use Rattle.type_grammar.specs.Types.{IsPart}
use Rattle.word_grammar.specs.Attached.{head_attachments}
use Rattle.word_grammar.specs.Attributes.{parameter_run}
use Rattle.word_grammar.specs.Linkage.{linkage_words, linkage, maybe_linkage}
use Rattle.word_grammar.specs.Runs.{item_run, function_run}
use Rattle.head_grammar.specs.Parameters.{parameter_type, maybe_local, parameter, some_parameters, next_dots, listed, parameters}
use Rattle.head_grammar.specs.Extras.{perhaps_at, extras, all_extras, at_section, at_comdat, at_alignment, put, gathered_of, all_attached}
use Rattle.head_grammar.specs.Heads.{begun, declare_form, define_form}
use Rattle.printed_tokens.specs.Atoms.{Atom}
use Rattle.printed_tokens.specs.Looks.{Seen, seen_of}
use Rattle.printed_units.specs.Written.{IsName, IsTy}
use Rattle.printed_units.specs.Said.{linkage_word, param_said, params_said, unnamed, declare_said, define_said}
use Rattle.printed_units.specs.Printing.{space, newline, mark, word, global, local, ty_atoms}
use Rattle.printed_units.specs.Printing as atoms
use Rattle.printed_units.specs.Lines.{linkage_atoms, params_atoms, declare_atoms, define_line}
use Rattle.printed_units.proofs.ListLemmas.{all_zipped}
use Rattle.printed_units.proofs.WrittenLemmas.{AreNamed}
use Rattle.printed_units.proofs.TypeUnits.{ty_shows}
use Rattle.printed_tokens.proofs.AtomLemmas.{seen_of_append}
use Rattle.printed_units.proofs.ShowLemmas.{just_shows, Shows, so_shows, looks_show, token_shows, skip_shows, both_show, mapped_shows, left_shows, right_shows, none_shows, many_none, some_shows, run_none, then_none, ends_show, AreShown, some_show}
use Rattle.printed_units.proofs.OperandUnits.{global_shows, local_shows}

-- parameters

parameter_type_shows : (declared : Bool) (type : Ty) → IsTy type → Shows (parameter_type declared) (seen_of (ty_atoms type)) (λ a. a ≡ type)
unfolding parameter_type
parameter_type_shows true type is = left_shows (ty_shows type is)
parameter_type_shows false type is = ty_shows type is

parameter_run_none : Shows parameter_run [] (λ a. a ≡ [])
unfolding parameter_run
parameter_run_none = mapped_shows (λ xs none. rw none refl) many_none

unnamed_shows : (type : Ty) → IsTy type → Shows (parameter true) (seen_of (ty_atoms type)) (λ a. a ≡ param_said type None)
unfolding parameter maybe_local
unnamed_shows type is =
    mapped_shows (λ x has. rw (has.0, has.1.0, has.1.1) refl)
    (then_none (parameter_type_shows true type is) (then_none parameter_run_none none_shows))

named_shows : (type : Ty) (name : List ℕ) → IsTy type → IsName name →
    Shows (parameter false) (seen_of (ty_atoms type ++ space ∷ local name ∷ [])) (λ a. a ≡ param_said type (Some name))
unfolding parameter maybe_local
named_shows type name is named =
    mapped_shows (λ x has. rw (has.0, has.1.0, has.1.1) refl)
    (both_show (seen_of_append (ty_atoms type) _) (parameter_type_shows false type is)
    (both_show refl parameter_run_none (just_shows (local_shows name named))))

unnamed_shown : (types : List Ty) → AllByRecursion IsTy types → AreShown (parameter true) (map ty_atoms types) (unnamed types)
unnamed_shown types are =
    all_zipped IsTy (λ item v. Shows (parameter true) (seen_of item) (λ a. a ≡ v)) ty_atoms (λ type. param_said type None) unnamed_shows types are

named_shown : (types : List Ty) (names : List (List ℕ)) → AreNamed types names →
    AreShown (parameter false) (params_atoms types names) (params_said types names)
named_shown [] [] are = tt
named_shown (type ∷ types) (name ∷ names) (is, are) = (named_shows type name is.0 is.1, named_shown types names are)
named_shown _ _ are = absurd are

listed_shows : (declared : Bool) (items : List (List Atom)) (params : List Param) → AreShown (parameter declared) items params →
    Shows (listed declared) (seen_of (atoms.listed items)) (λ x. x ≡ (params, false))
unfolding listed some_parameters next_dots
listed_shows declared [] [] are = mapped_shows (λ o none. rw none refl) none_shows
listed_shows declared (item ∷ items) (param ∷ params) are =
    mapped_shows {P = λ o. o ≡ Some (param ∷ params, false)} (λ o same. rw same refl)
    (so_shows (λ o (a, some, has). rw (some, sym (map-id a.0) ∙ has.0, has.1) refl)
    (some_shows (right_shows (then_none (some_show item items param params are)
    (mapped_shows {Q = λ b. b ≡ false} (λ o none. rw none refl) none_shows)))))
listed_shows declared _ _ are = absurd are

params_show : (declared : Bool) (items : List (List Atom)) (params : List Param) → AreShown (parameter declared) items params →
    Shows (parameters declared) (seen_of (mark (codes "(") ∷ []) ++ (seen_of (atoms.listed items) ++ seen_of (mark (codes ")") ∷ [])))
    (λ x. x ≡ (params, false))
unfolding parameters
params_show declared items params are = skip_shows refl (ends_show _ refl refl (listed_shows declared items params are))

-- linkage

linkage_shows : (own : Linkage) → Shows maybe_linkage (seen_of (linkage_atoms own)) (λ o. o ≡ linkage_word own)
unfolding maybe_linkage linkage linkage_words
linkage_shows Private = just_shows (token_shows refl (λ t e. e))
linkage_shows _ = none_shows

none_linked : Shows maybe_linkage [] (λ o. o ≡ None)
unfolding maybe_linkage
none_linked = none_shows

-- the beginning of a head

abbrev begun_said : Option (List ℕ) → Ty → List ℕ → List Param → Begun
begun_said linkage result name params = record { linkage = linkage; result = result; name = name; params = params; dots = false }

-- how a head looks up to the end of its parameters
abbrev begun_looks : List Atom → Ty → List ℕ → List (List Atom) → List Seen
begun_looks linked result name items =
    seen_of linked ++ (seen_of (ty_atoms result) ++ (seen_of (global name ∷ mark (codes "(") ∷ [])
    ++ (seen_of (atoms.listed items) ++ seen_of (mark (codes ")") ∷ []))))

head_looks : (linked : List Atom) (result : Ty) (name : List ℕ) (items : List (List Atom)) (rest : List Atom) →
    seen_of (linked ++ ty_atoms result ++ space ∷ global name ∷ mark (codes "(") ∷ atoms.listed items ++ mark (codes ")") ∷ rest)
    ≡ begun_looks linked result name items ++ seen_of rest
head_looks linked result name items rest = simp (seen_of_append, append_assoc)

begun_shows : (declared : Bool) (linked : List Atom) (linkage : Option (List ℕ)) (result : Ty) (name : List ℕ)
    (items : List (List Atom)) (params : List Param) →
    Shows maybe_linkage (seen_of linked) (λ o. o ≡ linkage) → IsTy result → IsName name →
    AreShown (parameter declared) items params →
    Shows (begun declared) (begun_looks linked result name items) (λ b. b ≡ begun_said linkage result name params)
unfolding begun item_run
begun_shows declared linked linkage result name items params links is named are =
    mapped_shows (λ x has. rw (has.0, has.1.1.0, has.1.1.1.0, has.1.1.1.1) refl)
    (both_show refl links (both_show refl run_none
    (both_show refl (ty_shows result is)
    (both_show refl (global_shows name named) (params_show declared items params are)))))

-- nothing stands behind the parameters

extras_none : Shows extras [] (λ a. a ≡ [])
unfolding extras
extras_none = many_none

all_extras_none : Shows all_extras [] (λ a. a ≡ [])
unfolding all_extras function_run
all_extras_none = mapped_shows (λ x has. has.1) (both_show refl run_none extras_none)

put_none : Shows put [] (λ a. a ≡ [])
unfolding put at_section at_comdat at_alignment
put_none =
    mapped_shows (λ x has. rw (has.0, has.1.0, has.1.1.0, has.1.1.1) refl)
    (both_show refl all_extras_none (both_show refl place_none (both_show refl place_none place_none)))
  where
    place_none : {p : IsPart (Unit {0})} → Shows (perhaps_at p) [] (λ a. a ≡ [])
    place_none = mapped_shows (λ o none. rw none refl) none_shows

all_attached_none : Shows all_attached [] (λ a. a ≡ gathered_of [])
unfolding all_attached
all_attached_none = mapped_shows (λ xs none. rw none refl) many_none

head_attachments_none : Shows head_attachments [] (λ a. a ≡ [])
unfolding head_attachments
head_attachments_none = many_none

-- heads

pub declare_shows : (name : List ℕ) (result : Ty) (types : List Ty) → IsName name → IsTy result → AllByRecursion IsTy types →
    Shows declare_form (seen_of (declare_atoms (global name) result types)) (λ f. f ≡ declare_said name result types)
unfolding declare_form
declare_shows name result types named is are =
    looks_show (head_looks (word (codes "declare") ∷ space ∷ []) result name (map ty_atoms types) (newline ∷ []))
    (mapped_shows (λ x has. rw (has.0, has.1.0, has.1.1) refl)
    (skip_shows refl (both_show refl head_attachments_none (both_show refl
    (begun_shows true [] None result name (map ty_atoms types) (unnamed types) none_linked is named (unnamed_shown types are))
    all_extras_none))))

pub define_shows : (f : Func) → IsName f.name → IsTy f.fty.result → AreNamed f.fty.params f.params →
    Shows define_form (seen_of (define_line f).atoms) (λ a. a ≡ define_said f)
unfolding define_form
define_shows f named is are =
    looks_show
    (head_looks (word (codes "define") ∷ space ∷ linkage_atoms f.linkage) f.fty.result f.name (params_atoms f.fty.params f.params)
    (space ∷ mark (codes "{") ∷ newline ∷ []))
    (mapped_shows (λ x has. rw (has.0, has.1.0, has.1.1) refl)
    (skip_shows refl (both_show refl
    (begun_shows false (linkage_atoms f.linkage) (linkage_word f.linkage) f.fty.result f.name (params_atoms f.fty.params f.params)
    (params_said f.fty.params f.params) (linkage_shows f.linkage) is named (named_shown f.fty.params f.params are))
    (both_show refl put_none (ends_show _ refl refl all_attached_none)))))
