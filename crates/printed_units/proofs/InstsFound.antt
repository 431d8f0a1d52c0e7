-- Which unit the reader finds where a text of one of the forms stands before a next line.
use Rattle.std.proofs.Common.{◌≡◌, ℕ, ◌≤◌, true, false, nat_lt, List, [], ◌∷◌, ◌++◌, length, codes, refl, sym, ◌∙◌, ap, arith, append-nil}
use Rattle.std.proofs.lemmas.Bool.Decides.{nat_tests}
use Rattle.ir_lex.specs.declared.token.Kind.TheVariants.{Local}
use Rattle.ir_values.specs.declared.units.Form.{Form}
use Rattle.unit_grammar.specs.Pieces.{Piece}
use Rattle.unit_grammar.specs.Signs.{Sign, of_kind, mark, word, words, name, passes, Start, begins_any, all_apart}
use Rattle.unit_grammar.specs.Readers.{found, absent}
use Rattle.unit_grammar.proofs.SignLaws.{never_both, begins_one}
use Rattle.type_grammar.specs.Types.{IsPart}
use Rattle.word_grammar.specs.Attached.{dropped_attachments}
use Rattle.instruction_grammar.specs.Memory.{store, number}
use Rattle.instruction_grammar.specs.Actions.{action, plain_action_body, plain_action}
use Rattle.module_grammar.specs.Items.{type_body}
use Rattle.module_grammar.specs.LeftUnits.{left_words, plain_head}
use Rattle.module_grammar.specs.Beginnings.{entry_starts}
use Rattle.module_grammar.specs.Reading as lines
use Rattle.module_grammar.proofs.FormLaws.{type_body_told}
use Rattle.module_grammar.proofs.EntryLaws.{entry_exact}
use Rattle.ir_text.specs.Choices.{longer}
use Rattle.ir_text.specs.Forms.{named_body, named, body_form, module_form, form, result_name, number_head, number_form}
use Rattle.ir_text.specs.UnitReaders.{form_read, number_read, left_read, last_read, said_read}
use Rattle.ir_text.proofs.InstructionStarts.{plain_action_starts, body_some, attached_told}
use Rattle.ir_text.proofs.FormLaws.{body_told, named_told, named_starts}
use Rattle.printed_units.proofs.LookLemmas.{end_of, Follows, line_signs, end_signs}
use Rattle.printed_units.proofs.PartsFound.{IsToldBy, StandsAlone, IsText, part_read, part_starts, part_before, part_apart, part_begins, one_passes}
use Rattle.printed_units.proofs.InstructionApart.{named_body_some, named_apart, action_alone, plain_action_alone, store_told_by, store_alone, attached_ends, number_starts, number_word_starts, number_apart, number_told_by, type_body_number}
use Rattle.printed_units.proofs.HeadApart.{left_number, entry_apart}
use Rattle.printed_units.proofs.LeftFound.{left_absent, local_absent, set_left, left_ends}
use Rattle.printed_units.proofs.FormsFound.{not_there, begins_so, named_told_by, action_told_by, plain_told_by, label_told_by, close_told_by, variable_told_by, metadata_told_by, define_told_by, declare_told_by, attributes_told_by, comdat_told_by, header_told_by, table_told_by, IsForm, named_form, action_form, plain_form}

-- this form and no other text, or no longer one

last_absent : (ts : List Piece) → number_read ts ≡ absent → left_read ts ≡ absent → last_read ts ≡ absent
unfolding last_read
last_absent ts none nothing = rw (none, nothing) refl

said_form : (ts : List Piece) (f : Form) (rest : List Piece) → form_read ts ≡ found f rest → last_read ts ≡ absent →
    said_read ts ≡ found f rest
unfolding said_read
said_form ts f rest e none = rw (e, none) refl

pub said_alone : (ts : List Piece) (f : Form) (rest : List Piece) → form_read ts ≡ found f rest → number_read ts ≡ absent →
    left_read ts ≡ absent → said_read ts ≡ found f rest
said_alone ts f rest e none nothing = said_form ts f rest e (last_absent ts none nothing)

pub longer_first : (f g : Form) (rest after : List Piece) → length rest ≤ length after → longer f rest (found g after) ≡ found f rest
longer_first f g rest after least =
    let not_less : nat_lt (length after) (length rest) ≡ false = grind (arith, nat_tests) in
    rw not_less refl

pub number_absent : (S : List Start) (ts : List Piece) → all_apart S number_starts ≡ true → begins_any S ts ≡ true → number_read ts ≡ absent
unfolding number_read
number_absent S ts apart begun = rw (not_there number_told_by S ts apart begun) refl

-- a text of the part is the unit, where nothing follows or a line that begins with one of the signs
abbrev pub Said : IsPart Form → List Sign → Type 0
Said g signs =
    (end : ℕ) (front rest : List Piece) (f : Form) → IsText g front f → Follows signs end rest → said_read (front ++ rest) ≡ found f rest

-- A text of a part is the unit, where nothing that follows makes it longer, and it begins as no number of a pointer and
-- nothing that is left out does.
pub said_part : {g : IsPart Form} {T : List Start} → IsToldBy g T → IsForm g T → all_apart T number_starts ≡ true →
    {signs : List Sign} → StandsAlone g signs → Said g signs
said_part {g = g} {T = T} h form number {signs = signs} alone end front rest f is next =
    let begun = begins_so h front rest f is in
    said_alone (front ++ rest) f rest
    (form (front ++ rest) f rest begun (part_before g h.is.told signs alone.ends end front rest f is next))
    (number_absent T (front ++ rest) number begun)
    (left_absent (part_starts g) (front ++ rest) alone.left (part_begins h.is front rest f is))

-- instructions that set a register

pub record IsSet (front : List Piece) : Type 0 where
  pub name : Piece
  pub sign : Piece
  pub back : List Piece
  pub f : List ℕ → Form
  pub named : passes (of_kind Local) name ≡ true
  pub equals : passes (mark (codes "=")) sign ≡ true
  pub body : IsText named_body back f
  pub splits : front ≡ name ∷ sign ∷ back

set_of : (front : List Piece) (f : Form) → IsText named front f → IsSet front
unfolding named
set_of front f (x, (first, second, (t, one, passed, says), (e, back, equals, body, two), splits), same) = record {
  name = t;
  sign = e;
  back = back;
  f = x.1;
  named = passed;
  equals = equals;
  body = body;
  splits = rw (splits, one, two) refl;
}

set_number : (t e : Piece) (ts : List Piece) → passes (of_kind Local) t ≡ true → passes (mark (codes "=")) e ≡ true →
    part_read number ts ≡ absent →
    number_read (t ∷ e ∷ ts) ≡ absent
unfolding number_read number_form number_head result_name
set_number t e ts named equals none = rw (named, equals, none) refl

pub said_named : Said named line_signs
said_named end front rest f is next =
    let s = set_of front f is in
    let splits : front ++ rest ≡ s.name ∷ s.sign ∷ (s.back ++ rest) = ap (λ z. z ++ rest) s.splits in
    let begun = part_begins {g = named_body} (record { told = body_told; some = named_body_some }) s.back rest s.f s.body in
    said_alone (front ++ rest) f rest
    (named_form (front ++ rest) f rest (begins_so named_told_by front rest f is)
    (part_before named named_told line_signs named_apart.ends end front rest f is next))
    (ap (λ z. number_read z) splits ∙ set_number s.name s.sign (s.back ++ rest) s.named s.equals
    (part_apart number_apart.told (part_starts named_body) (s.back ++ rest) named_apart.number begun))
    (ap (λ z. left_read z) splits ∙ local_absent s.name s.sign (s.back ++ rest) s.named s.equals
    (never_both (part_starts named_body) (part_starts plain_head) (s.back ++ rest) named_apart.left begun))

-- other instructions

pub said_action : Said action line_signs
said_action = said_part action_told_by action_form refl action_alone

attached : (ts : List Piece) (f : Form) → IsText plain_action_body ts f → IsText plain_action ts f
unfolding plain_action dropped_attachments
attached ts f is = ((f, tt), (ts, [], is, ([], refl, refl), sym (append-nil ts)), refl)

-- one that ends a block
pub said_end : Said plain_action_body end_signs
said_end end front rest f body next =
    said_part plain_told_by plain_form refl plain_action_alone end front rest f (attached front f body) next

none_attached : IsText dropped_attachments [] tt
unfolding dropped_attachments
none_attached = ([], refl, refl)

attached_read : (end : ℕ) (rest : List Piece) → Follows line_signs end rest → part_read dropped_attachments rest ≡ found tt rest
attached_read end rest next =
    part_before dropped_attachments attached_told line_signs attached_ends end [] rest tt none_attached next

store_read : (ts : List Piece) (f : Form) (rest : List Piece) → part_read store ts ≡ found f rest →
    part_read dropped_attachments rest ≡ found tt rest →
    part_read plain_action ts ≡ found f rest
unfolding plain_action plain_action_body
store_read ts f rest e none = rw (e, none) refl

pub said_store : Said store line_signs
said_store end front rest f is next =
    let begun = begins_so store_told_by front rest f is in
    said_alone (front ++ rest) f rest
    (plain_form (front ++ rest) f rest begun
    (store_read (front ++ rest) f rest (part_before store store_told_by.is.told line_signs store_alone.ends end front rest f is next)
    (attached_read end rest next)))
    (number_absent plain_action_starts (front ++ rest) refl begun)
    (left_absent (part_starts store) (front ++ rest) store_alone.left (part_begins store_told_by.is front rest f is))

-- the number of a pointer

never_named : (t e p : Piece) (ts : List Piece) → passes (of_kind Local) t ≡ true → passes (mark (codes "=")) e ≡ true →
    passes (word (codes "ptrtoint")) p ≡ true →
    part_read named (t ∷ e ∷ p ∷ ts) ≡ absent
unfolding named named_body
never_named t e p ts named equals passed =
    let begun = begins_one (word (codes "ptrtoint")) p ts passed in
    rw (
      named,
      equals,
      part_apart {g = type_body} (record { told = type_body_told; some = body_some }) number_word_starts (p ∷ ts) type_body_number begun,
      part_apart action_told_by.is number_word_starts (p ∷ ts) number_apart.action begun,
    ) refl

entry_absent : (ts : List Piece) → begins_any named_starts ts ≡ true → lines.entry_read ts ≡ absent
entry_absent ts begun = entry_exact.absent_at ts refl (never_both named_starts entry_starts ts entry_apart begun)

never_body : (ts : List Piece) → begins_any named_starts ts ≡ true → part_read named ts ≡ absent → part_read body_form ts ≡ absent
unfolding body_form
never_body ts begun none =
    rw (
      none,
      not_there action_told_by named_starts ts refl begun,
      not_there plain_told_by named_starts ts refl begun,
      not_there label_told_by named_starts ts refl begun,
      not_there close_told_by named_starts ts refl begun,
    ) refl

never_module : (ts : List Piece) → begins_any named_starts ts ≡ true → part_read module_form ts ≡ absent
unfolding module_form
never_module ts begun =
    rw (
      not_there variable_told_by named_starts ts refl begun,
      not_there metadata_told_by named_starts ts refl begun,
      not_there define_told_by named_starts ts refl begun,
      not_there declare_told_by named_starts ts refl begun,
      not_there attributes_told_by named_starts ts refl begun,
      not_there comdat_told_by named_starts ts refl begun,
      not_there header_told_by named_starts ts refl begun,
      not_there table_told_by named_starts ts refl begun,
    ) refl

never_form : (ts : List Piece) → begins_any named_starts ts ≡ true → part_read named ts ≡ absent → form_read ts ≡ absent
unfolding form_read form
never_form ts begun none = rw (never_body ts begun none, never_module ts begun, entry_absent ts begun) refl

number_last : (ts : List Piece) (f g : Form) (rest after : List Piece) → part_read number_form ts ≡ found f rest →
    left_read ts ≡ found g after →
    length rest ≤ length after → last_read ts ≡ found f rest
unfolding last_read number_read
number_last ts f g rest after e left least = rw (e, left) (longer_first f g rest after least)

said_last : (ts : List Piece) (f : Form) (rest : List Piece) → form_read ts ≡ absent → last_read ts ≡ found f rest →
    said_read ts ≡ found f rest
unfolding said_read
said_last ts f rest none e = rw (none, e) refl

ptrtoint_left : (p : Piece) → passes (word (codes "ptrtoint")) p ≡ true → passes (words left_words) p ≡ true
ptrtoint_left p passed = one_passes (word (codes "ptrtoint")) (words left_words) p left_number passed

pub said_number : (t e p : Piece) (back rest : List Piece) (f : Form) → passes (of_kind Local) t ≡ true →
    passes (mark (codes "=")) e ≡ true →
    passes (word (codes "ptrtoint")) p ≡ true → IsText number_form (t ∷ e ∷ p ∷ back) f → Follows line_signs (end_of p.end back) rest →
    said_read (t ∷ e ∷ p ∷ (back ++ rest)) ≡ found f rest
said_number t e p back rest f named equals passed is next =
    said_last (t ∷ e ∷ p ∷ (back ++ rest)) f rest
    (never_form (t ∷ e ∷ p ∷ (back ++ rest)) (begins_one (of_kind Local) t (e ∷ p ∷ (back ++ rest)) named)
    (never_named t e p (back ++ rest) named equals passed))
    (number_last (t ∷ e ∷ p ∷ (back ++ rest)) f _ rest _
    (part_before number_form number_told_by.is.told line_signs number_apart.ends (end_of p.end back) (t ∷ e ∷ p ∷ back) rest f is next)
    (set_left t e p (back ++ rest) named equals (ptrtoint_left p passed)) (left_ends p.end back rest next))
