-- The other lines of a printed module are read as units before the lines that may follow them.
use Rattle.std.proofs.Common.{◌≡◌, ℕ, Bool, true, false, List, [], ◌∷◌, ◌++◌, map, codes, Option, Some, None, refl, sym, ◌∙◌, ap, append_assoc}
use Rattle.ir_lex.specs.declared.token.Kind.TheVariants.{Word, Global}
use Rattle.ir_values.specs.declared.constants.Const.{Const}
use Rattle.ir_values.specs.declared.units.Form.{Form}
use Rattle.ir_values.specs.declared.modules.Linkage.{Linkage}
use Rattle.ir_values.specs.declared.modules.Linkage.TheVariants.{Private}
use Rattle.ir_values.specs.declared.modules.Func.{Func}
use Rattle.ir_values.specs.declared.modules.Jump.{Jump}
use Rattle.ir_values.specs.declared.modules.Var.{Var}
use Rattle.ir_print.specs.declared.intrinsics.Intrinsic.{Intrinsic}
use Rattle.unit_grammar.specs.Pieces.{Piece}
use Rattle.unit_grammar.specs.Signs as signs
use Rattle.unit_grammar.specs.Signs.{of_kind, words, passes, begins_any}
use Rattle.unit_grammar.specs.Beginnings.{one_sign}
use Rattle.unit_grammar.specs.Readers.{found, absent}
use Rattle.unit_grammar.proofs.SignLaws.{begins_one}
use Rattle.type_grammar.specs.Types.{IsPart}
use Rattle.word_grammar.specs.Linkage.{linkage_words}
use Rattle.head_grammar.specs.Heads.{declare_form, define_form}
use Rattle.module_grammar.specs.Items.{label, close}
use Rattle.ir_text.specs.UnitReaders.{left_read, said_read}
use Rattle.printed_tokens.specs.Atoms.{Atom}
use Rattle.printed_tokens.specs.Looks.{Seen, seen, seen_of}
use Rattle.printed_units.specs.Written.{IsName, IsVar, IsTable, IsFunc}
use Rattle.printed_units.specs.Said.{var_said}
use Rattle.printed_units.specs.Printing.{space, newline, word, mark, number, global, listed, ty_atoms, behind_comma}
use Rattle.printed_units.specs.Lines.{Line, linkage_atoms, content_linkage_atoms, kind_word, content_atoms, var_line, table_line, declare_line, intrinsic_line, params_atoms, define_line, label_line, close_line}
use Rattle.ir_print.specs.ModuleText.{has_none}
use Rattle.printed_tokens.proofs.AtomLemmas.{seen_of_append}
use Rattle.printed_units.proofs.SeenLemmas.{starts_with, let_by}
use Rattle.printed_units.proofs.LookLemmas.{behind, behind_both, end_of, seen_line, Follows, line_signs}
use Rattle.printed_units.proofs.HeadApart.{kind_sign, kept_signs}
use Rattle.printed_units.proofs.InstsFound.{Said}
use Rattle.printed_units.proofs.LeftFound.{kind_absent, linkage_absent}
use Rattle.printed_units.proofs.ItemsFound.{said_label, said_close, said_declare, said_define, said_table, said_variable}
use Rattle.printed_units.proofs.InstLines.{IsLineRead}
use Rattle.printed_units.proofs.ShowLemmas.{Shows, is_so}
use Rattle.printed_units.proofs.ItemUnits.{table_shows, declare_line_shows, intrinsic_shows, define_line_shows, label_shows, close_shows, VarIs, var_is}

-- a line that ends and is a text of a part, of which a text is the unit before a next line
part_reads : (g : IsPart Form) (l : Line) → Said g line_signs → ((broke : Bool) → behind broke l.atoms ≡ true) →
    Shows g (seen_of l.atoms) (λ f. f ≡ l.says) → IsLineRead line_signs l
part_reads g l said ends shows = record {
  ends = ends;
  reads = λ end broke front rest e next.
      said (end_of end front) front rest l.says (is_so shows front (seen_line end broke front l.atoms e)) next;
}

pub label_reads : (name : List ℕ) → IsName name → IsLineRead line_signs (label_line name)
label_reads name is = part_reads label (label_line name) said_label (λ broke. refl) (label_shows name is)

pub close_reads : IsLineRead line_signs close_line
close_reads = part_reads close close_line said_close (λ broke. refl) close_shows

pub table_reads : (table : Jump) → IsTable table → IsLineRead line_signs (table_line table)
table_reads table is = record {
  ends = λ broke. behind_both false (listed (map (λ name. global name ∷ []) table.funcs)) (space ∷ mark (codes "}") ∷ newline ∷ []);
  reads = λ end broke front rest e next.
      said_table end front rest _ (is_so (table_shows table is) front (seen_line end broke front (table_line table).atoms e)) next;
}

-- heads

intrinsic_ends : (intrinsic : Intrinsic) (broke : Bool) → behind broke (intrinsic_line intrinsic).atoms ≡ true
intrinsic_ends Intrinsic.Rotation broke = refl
intrinsic_ends Intrinsic.Trap broke = refl
intrinsic_ends Intrinsic.CodedTrap broke = refl

pub intrinsic_reads : (intrinsic : Intrinsic) → IsLineRead line_signs (intrinsic_line intrinsic)
intrinsic_reads intrinsic =
    part_reads declare_form (intrinsic_line intrinsic) said_declare (intrinsic_ends intrinsic) (intrinsic_shows intrinsic)

-- all before the closing parenthesis
abbrev declare_front : Func → List Atom
declare_front f =
    word (codes "declare") ∷ space ∷ ty_atoms f.fty.result ++ space ∷ global f.name ∷ mark (codes "(")
    ∷ listed (map ty_atoms f.fty.params)

abbrev define_front : Func → List Atom
define_front f =
    word (codes "define") ∷ space ∷ linkage_atoms f.linkage ++ ty_atoms f.fty.result ++ space ∷ global f.name ∷ mark (codes "(")
    ∷ listed (params_atoms f.fty.params f.params)

pub declare_reads : (f : Func) → IsFunc f → has_none f.blocks ≡ true → IsLineRead line_signs (declare_line f)
declare_reads f is none =
    part_reads declare_form (declare_line f) said_declare (λ broke. behind_both broke (declare_front f) (mark (codes ")") ∷ newline ∷ []))
    (declare_line_shows f is none)

pub define_reads : (f : Func) → IsFunc f → has_none f.blocks ≡ false → IsLineRead line_signs (define_line f)
define_reads f is some =
    part_reads define_form (define_line f) said_define
    (λ broke. behind_both broke (define_front f) (mark (codes ")") ∷ space ∷ mark (codes "{") ∷ newline ∷ []))
    (define_line_shows f is some)

-- variables

abbrev kind_atoms : Var → List Atom
kind_atoms v = word (kind_word v.constant) ∷ space ∷ content_atoms v.ty v.init

abbrev var_front : Var → List Atom
var_front v = global v.name ∷ space ∷ mark (codes "=") ∷ space ∷ content_linkage_atoms v.linkage v.init ++ kind_atoms v

abbrev align_atoms : Var → List Atom
align_atoms v = behind_comma (word (codes "align") ∷ space ∷ number v.align ∷ newline ∷ [])

abbrev word_seen : List ℕ → Seen
word_seen text = record { kind = Word; bytes = text }

kind_begins : (constant : Bool) (us rest : List Piece) (more : List Seen) → seen us ≡ word_seen (kind_word constant) ∷ more →
    begins_any (map one_sign kept_signs) (us ++ rest) ≡ true
kind_begins constant us rest more e =
    let one = starts_with us (word_seen (kind_word constant)) more e in
    ap (λ z. begins_any (map one_sign kept_signs) (z ++ rest)) one.splits
    ∙ begins_one kind_sign one.t (one.back ++ rest) (is constant one.t one.kind one.bytes)
  where
    is : (constant : Bool) (t : Piece) → t.kind ≡ Word → t.bytes ≡ kind_word constant → passes kind_sign t ≡ true
    is true t kind bytes = let_by kind_sign t Word (codes "constant") refl kind bytes
    is false t kind bytes = let_by kind_sign t Word (codes "global") refl kind bytes

abbrev NothingLeft : Piece → Piece → List Piece → List Piece → Type 0
NothingLeft n e us rest =
    passes (of_kind Global) n ≡ true → passes (signs.mark (codes "=")) e ≡ true → left_read (n ∷ e ∷ (us ++ rest)) ≡ absent

at_kind : (n e : Piece) (constant : Bool) (us rest : List Piece) (more : List Seen) → seen us ≡ word_seen (kind_word constant) ∷ more →
    NothingLeft n e us rest
at_kind n e constant us rest more looks_so named equals =
    kind_absent n e (us ++ rest) named equals (kind_begins constant us rest more looks_so)

at_word : (n e : Piece) (constant : Bool) (text : List ℕ) (us rest : List Piece) (more : List Seen) →
    ((t : Piece) → t.kind ≡ Word → t.bytes ≡ text → passes (words linkage_words) t ≡ true) →
    seen us ≡ word_seen text ∷ word_seen (kind_word constant) ∷ more → NothingLeft n e us rest
at_word n e constant text us rest more is looks_so named equals =
    let one = starts_with us (word_seen text) (word_seen (kind_word constant) ∷ more) looks_so in
    ap (λ z. left_read (n ∷ e ∷ (z ++ rest))) one.splits
    ∙ linkage_absent n e one.t (one.back ++ rest) named equals (is one.t one.kind one.bytes)
    (kind_begins constant one.back rest more one.rest)

external_is : (t : Piece) → t.kind ≡ Word → t.bytes ≡ codes "external" → passes (words linkage_words) t ≡ true
unfolding linkage_words
external_is t kind bytes = let_by (words linkage_words) t Word (codes "external") refl kind bytes

private_is : (t : Piece) → t.kind ≡ Word → t.bytes ≡ codes "private" → passes (words linkage_words) t ≡ true
unfolding linkage_words
private_is t kind bytes = let_by (words linkage_words) t Word (codes "private") refl kind bytes

nothing_left : (n e : Piece) (linkage : Linkage) (init : Option Const) (constant : Bool) (us rest : List Piece) (more : List Seen) →
    seen us ≡ seen_of (content_linkage_atoms linkage init) ++ word_seen (kind_word constant) ∷ more → NothingLeft n e us rest
nothing_left n e linkage None constant us rest more looks_so = at_word n e constant (codes "external") us rest more external_is looks_so
nothing_left n e Private (Some value) constant us rest more looks_so =
    at_word n e constant (codes "private") us rest more private_is looks_so
nothing_left n e _ (Some value) constant us rest more looks_so = at_kind n e constant us rest more looks_so

two_behind : (a b c d : Seen) (xs ys : List Seen) → a ∷ b ∷ xs ≡ c ∷ d ∷ ys → xs ≡ ys
two_behind a b c d xs ys e = cc

kind_seen : (v : Var) (n e : Piece) (us : List Piece) → seen (n ∷ e ∷ us) ≡ seen_of (var_line v).atoms →
    seen us ≡ seen_of (content_linkage_atoms v.linkage v.init) ++ seen_of (kind_atoms v ++ align_atoms v)
kind_seen v n e us looks_so =
    two_behind _ _ _ _ (seen us) (seen_of (content_linkage_atoms v.linkage v.init ++ kind_atoms v ++ align_atoms v)) looks_so
    ∙ ap seen_of (append_assoc (content_linkage_atoms v.linkage v.init) (kind_atoms v) (align_atoms v))
    ∙ seen_of_append (content_linkage_atoms v.linkage v.init) (kind_atoms v ++ align_atoms v)

var_said_so : (v : Var) (end : ℕ) (front rest : List Piece) → seen front ≡ seen_of (var_line v).atoms → VarIs v front →
    Follows line_signs end rest → said_read (front ++ rest) ≡ found (var_said v) rest
var_said_so v end front rest looks_so h next =
    let same = kind_seen v h.name h.sign (h.front ++ h.back) (ap seen (sym h.splits) ∙ looks_so) in
    let none = nothing_left h.name h.sign v.linkage v.init v.constant (h.front ++ h.back) rest _ same h.name_passes h.sign_passes in
    let comma = ap (λ z. begins_any (one_sign (signs.mark (codes ",")) ∷ []) (z ++ rest)) h.comma.splits
    ∙ begins_one (signs.mark (codes ",")) h.comma.token (h.comma.others ++ rest) h.comma.passed in
    ap (λ z. said_read (z ++ rest)) h.splits
    ∙ said_variable end h.name h.sign h.front h.back rest h.kept (Some (Some v.align)) h.name_passes h.sign_passes h.kept_is
    h.places_is comma next none
    ∙ ap (λ f. found f rest) h.says

pub var_reads : (v : Var) → IsVar v → IsLineRead line_signs (var_line v)
var_reads v is = record {
  ends = λ broke. behind_both broke (var_front v) (align_atoms v);
  reads = λ end broke front rest e next.
      let looks_so = seen_line end broke front (var_line v).atoms e in
      var_said_so v _ front rest looks_so (var_is v front is looks_so) next;
}
