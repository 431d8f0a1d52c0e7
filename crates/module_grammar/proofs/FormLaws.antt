-- Forms that are told by two tokens at each place are read exactly.
use Rattle.std.proofs.Common.{◌≡◌, ℕ, Bool, true, false, ◌&&◌, inl, inr, List, [], Result, Ok, Err, drop, refl, subst}
use Rattle.unit_grammar.specs.declared.stop.Stop.{Stop}
use Rattle.unit_grammar.specs.declared.stop.Stop.TheVariants.{Absent, Deep, Memory}
use Rattle.unit_grammar.specs.Pieces.{Piece}
use Rattle.unit_grammar.specs.Signs.{Start}
use Rattle.unit_grammar.specs.Grammar.{nothing, token, enclosed, ◌▹◌, ◌⋆◌, says, ◌or◌, maybe, many, at, Text}
use Rattle.unit_grammar.specs.Readers.{Reader, read}
use Rattle.unit_grammar.specs.Beginnings.{is_told, nullable, starts, more}
use Rattle.unit_grammar.specs.Exact.{Exact}
use Rattle.unit_grammar.specs.Seeing.{Gives}
use Rattle.unit_grammar.specs.Answers.{Tells}
use Rattle.unit_grammar.proofs.BoolLemmas.{and_both}
use Rattle.unit_grammar.proofs.GrammarLaws.{is_exact}
use Rattle.unit_grammar.proofs.LongestLaws.{is_longest, none_begins}
use Rattle.unit_grammar.proofs.AnswerLaws.{tells}
use Rattle.type_grammar.specs.Types.{IsPart, value_type_signs, type_signs, left_type_words}
use Rattle.type_grammar.specs.Constants as constants
use Rattle.type_grammar.specs.Items as parts
use Rattle.type_grammar.specs.Levels.{IsAt, IsAny, OpensAt, levels}
use Rattle.type_grammar.specs.Reading.{reads}
use Rattle.type_grammar.specs.Beginnings.{starts_of, more_of}
use Rattle.type_grammar.proofs.LevelLaws.{any}
use Rattle.module_grammar.specs.Headers.{value, source, layout, triple, header}
use Rattle.module_grammar.specs.Items.{opaque, defined, type_body, comdat_words, comdat, group, attributes, label, close}
use Rattle.module_grammar.specs.Metadata.{node, distinct, numbered_node, named_node, metadata}
use Rattle.module_grammar.specs.Tables.{function, next_function, other_functions, functions, table}
use Rattle.module_grammar.specs.Texts.{IsForm, IsAnyForm, OpensForm}

pub form_exact : {A : Type 0} (g : IsPart A) → is_told starts_of more_of g ≡ true →
    Exact (IsForm g) (IsAnyForm g) (Unit {0}) (OpensForm g) (read (reads levels) g) (starts starts_of g) (more starts_of more_of g) (nullable g)
form_exact g told = is_exact (IsAt levels) IsAny (Unit {0}) (OpensAt levels) (reads levels) starts_of more_of (any levels) g told

pub form_tells : {A : Type 0} (g : IsPart A) → is_told starts_of more_of g ≡ true → (tokens ts : List Piece) (r : Result (A × ℕ) Stop) →
    Gives tokens r (read (reads levels) g ts) → Tells (IsForm g) (IsAnyForm g) (OpensForm g) tokens ts r
form_tells g told tokens ts r gives = tells (form_exact g told) tokens ts r gives

-- the same of texts that nothing makes longer
pub closed_exact : {A : Type 0} (g : IsPart A) → is_told starts_of more_of g ≡ true → more starts_of more_of g ≡ [] → nullable g ≡ false →
    Exact (IsForm g) (IsAnyForm g) (Unit {0}) (OpensForm g) (read (reads levels) g) (starts starts_of g) [] false
closed_exact g told closed some =
    subst (λ (z : Bool). Exact (IsForm g) (IsAnyForm g) (Unit {0}) (OpensForm g) (read (reads levels) g) (starts starts_of g) [] z) some
    (subst (λ (M : List Start). Exact (IsForm g) (IsAnyForm g) (Unit {0}) (OpensForm g) (read (reads levels) g) (starts starts_of g) M (nullable g)) closed
    (form_exact g told))

-- no type or constant stands in the part
abbrev pub is_free : {A : Type 0} → IsPart A → Bool
is_free (nothing x) = true
is_free (token s f) = true
is_free (enclosed o c) = true
is_free (s ▹ p) = is_free p
is_free (p ⋆ q) = is_free p && is_free q
is_free (says f p) = is_free p
is_free (p or q) = is_free p && is_free q
is_free (maybe p) = is_free p
is_free (many p) = is_free p
is_free (at x) = false

-- so that nothing is opened too deep
pub never_opens : {A : Type 0} (g : IsPart A) → is_free g ≡ true → (ts : List Piece) → OpensForm g ts → ⊥
never_opens (nothing x) free ts o = absurd o
never_opens (token s f) free ts o = absurd o
never_opens (enclosed o c) free ts h = absurd h
never_opens (s ▹ p) free ts (t, back, passed, o, splits) = never_opens p free back o
never_opens (p ⋆ q) free ts (inl o) = never_opens p (and_both (is_free p) (is_free q) free).0 ts o
never_opens (p ⋆ q) free ts (inr (front, back, a, is, o, splits)) = never_opens q (and_both (is_free p) (is_free q) free).1 back o
never_opens (says f p) free ts o = never_opens p free ts o
never_opens (p or q) free ts (inl o) = never_opens p (and_both (is_free p) (is_free q) free).0 ts o
never_opens (p or q) free ts (inr o) = never_opens q (and_both (is_free p) (is_free q) free).1 ts o
never_opens (maybe p) free ts o = never_opens p free ts o
never_opens (many p) free ts (front, back, xs, are, o, splits) = never_opens p free back o
never_opens (at x) free ts o = absurd cc

pub free_tells : {A : Type 0} {P Q : Text A} {D : Type 0} {O : List Piece → Type 0} {p : Reader A} {S M : List Start} {z : Bool} → Exact P Q D O p S M z →
    ((ts : List Piece) → O ts → ⊥) → (tokens ts : List Piece) (r : Result (A × ℕ) Stop) → Gives tokens r (p ts) → Tells P Q (λ _. ⊥) tokens ts r
free_tells h none tokens ts (Ok x) e = is_longest h ts x.0 (drop x.1 tokens) e
free_tells h none tokens ts (Err Absent) e = none_begins h ts e
free_tells h none tokens ts (Err Deep) e = none ts (h.opened ts e)
free_tells h none tokens ts (Err Memory) e = tt

pub header_told : is_told starts_of more_of header ≡ true
unfolding value source layout triple header
header_told = refl

pub type_body_told : is_told starts_of more_of type_body ≡ true
unfolding opaque defined type_body value_type_signs type_signs left_type_words
type_body_told = refl

pub comdat_told : is_told starts_of more_of comdat ≡ true
unfolding comdat_words comdat
comdat_told = refl

pub attributes_told : is_told starts_of more_of attributes ≡ true
unfolding group attributes
attributes_told = refl

pub label_told : is_told starts_of more_of label ≡ true
unfolding label
label_told = refl

pub close_told : is_told starts_of more_of close ≡ true
unfolding close
close_told = refl

pub metadata_told : is_told starts_of more_of metadata ≡ true
unfolding node distinct numbered_node named_node metadata parts.own_items parts.node_item parts.word_item parts.null_item parts.item_list parts.nested parts.constant_item parts.item_body parts.item_signs value_type_signs type_signs left_type_words constants.constant_words constants.undefined_words constants.left_constant_words constants.constant_signs
metadata_told = refl

pub table_told : is_told starts_of more_of table ≡ true
unfolding function next_function other_functions functions table
table_told = refl
