-- Which unit the reader finds where a text of a line outside of instructions stands before a next line.
use Rattle.std.proofs.Common.{◌≡◌, ℕ, ◌≤◌, true, List, [], ◌∷◌, ◌++◌, length, codes, Option, refl, ◌∙◌, ap, subst, append_assoc}
use Rattle.ir_lex.specs.declared.token.Kind.TheVariants.{Global}
use Rattle.ir_values.specs.declared.units.Form.{Form}
use Rattle.unit_grammar.specs.Pieces.{Piece}
use Rattle.unit_grammar.specs.Signs.{of_kind, mark, word, words, name, passes, begins_any}
use Rattle.unit_grammar.specs.Beginnings.{one_sign}
use Rattle.unit_grammar.specs.Readers.{found, absent}
use Rattle.unit_grammar.proofs.SignLaws.{never_both, begins_one}
use Rattle.word_grammar.specs.Attached.{attachments}
use Rattle.word_grammar.specs.Places.{variable_places}
use Rattle.head_grammar.specs.declared.kept.Kept.{Kept}
use Rattle.head_grammar.specs.Heads.{declare_form, define_form}
use Rattle.head_grammar.specs.Variables.{kept, variable_of, variable_form}
use Rattle.module_grammar.specs.Items.{label, close}
use Rattle.module_grammar.specs.Tables.{table}
use Rattle.module_grammar.specs.LeftUnits.{left_words}
use Rattle.module_grammar.proofs.FormLaws.{table_told}
use Rattle.ir_text.specs.UnitReaders.{form_read, number_read, left_read, last_read, said_read}
use Rattle.ir_text.proofs.HeadStarts.{variable_form_starts}
use Rattle.ir_text.proofs.ModuleStarts.{table_starts}
use Rattle.printed_units.proofs.LookLemmas.{end_of, Follows, line_signs}
use Rattle.printed_units.proofs.PartsFound.{IsText, part_read, part_more, part_found, part_before, one_passes}
use Rattle.printed_units.proofs.HeadApart.{label_alone, close_alone, declare_alone, define_alone, table_ends, variable_apart, left_table}
use Rattle.printed_units.proofs.LeftFound.{word_left, left_ends}
use Rattle.printed_units.proofs.FormsFound.{begins_so, label_told_by, close_told_by, define_told_by, declare_told_by, table_told_by, label_form, close_form, a_variable_form, a_define_form, a_declare_form, a_table_form}
use Rattle.printed_units.proofs.InstsFound.{Said, said_alone, said_part, number_absent, longer_first}

pub said_label : Said label line_signs
said_label = said_part label_told_by label_form refl label_alone

pub said_close : Said close line_signs
said_close = said_part close_told_by close_form refl close_alone

pub said_declare : Said declare_form line_signs
said_declare = said_part declare_told_by a_declare_form refl declare_alone

pub said_define : Said define_form line_signs
said_define = said_part define_told_by a_define_form refl define_alone

-- tables, which are as long as what is left out

said_longer : (ts : List Piece) (f g : Form) (rest after : List Piece) → form_read ts ≡ found f rest → number_read ts ≡ absent →
    left_read ts ≡ found g after → length rest ≤ length after → said_read ts ≡ found f rest
unfolding said_read last_read
said_longer ts f g rest after e none left least = rw (e, none, left) (longer_first f g rest after least)

pub record IsHeaded (front : List Piece) : Type 0 where
  pub head : Piece
  pub back : List Piece
  pub passed : passes (word (codes "jumptable")) head ≡ true
  pub splits : front ≡ head ∷ back

headed : (front : List Piece) (f : Form) → IsText table front f → IsHeaded front
unfolding table
headed front f (x, (t, back, passed, is, splits), same) = record { head = t; back = back; passed = passed; splits = splits }

said_headed : (t : Piece) (back rest : List Piece) (f : Form) → passes (word (codes "jumptable")) t ≡ true → IsText table (t ∷ back) f →
    Follows line_signs (end_of t.end back) rest → said_read (t ∷ (back ++ rest)) ≡ found f rest
said_headed t back rest f passed is next =
    let begun = begins_so table_told_by (t ∷ back) rest f is in
    said_longer (t ∷ (back ++ rest)) f _ rest _
    (a_table_form (t ∷ (back ++ rest)) f rest begun
    (part_before table table_told line_signs table_ends (end_of t.end back) (t ∷ back) rest f is next))
    (number_absent table_starts (t ∷ (back ++ rest)) refl begun)
    (word_left t (back ++ rest) passed (one_passes (word (codes "jumptable")) (words left_words) t left_table passed))
    (left_ends t.end back rest next)

pub said_table : (end : ℕ) (front rest : List Piece) (f : Form) → IsText table front f → Follows line_signs (end_of end front) rest →
    said_read (front ++ rest) ≡ found f rest
said_table end front rest f is next =
    let h = headed front f is in
    let whole : IsText table (h.head ∷ h.back) f = subst (λ (z : List Piece). IsText table z f) h.splits is in
    let behind : Follows line_signs (end_of h.head.end h.back) rest =
    subst (λ (z : List Piece). Follows line_signs (end_of end z) rest) h.splits next in
    ap (λ z. said_read (z ++ rest)) h.splits ∙ said_headed h.head h.back rest f h.passed whole behind

-- variables

no_attachments : IsText attachments [] []
unfolding attachments
no_attachments = refl

attachments_read : (end : ℕ) (rest : List Piece) → Follows line_signs end rest → part_read attachments rest ≡ found [] rest
attachments_read end rest next =
    part_before attachments variable_apart.attachments_told line_signs variable_apart.attachments_ends end [] rest [] no_attachments next

variable_found : (n e : Piece) (ts mid rest : List Piece) (k : Kept) (a : Option (Option ℕ)) → passes (of_kind Global) n ≡ true →
    passes (mark (codes "=")) e ≡ true →
    part_read kept ts ≡ found k mid → part_read variable_places mid ≡ found a rest → part_read attachments rest ≡ found [] rest →
    part_read variable_form (n ∷ e ∷ ts) ≡ found (variable_of (name Global n, (k, (a, [])))) rest
unfolding variable_form
variable_found n e ts mid rest k a named equals first second third = rw (named, equals, first, second, third) refl

pub said_variable : (end : ℕ) (n e : Piece) (front back rest : List Piece) (k : Kept) (a : Option (Option ℕ)) →
    passes (of_kind Global) n ≡ true → passes (mark (codes "=")) e ≡ true → IsText kept front k → IsText variable_places back a →
    begins_any (one_sign (mark (codes ",")) ∷ []) (back ++ rest) ≡ true → Follows line_signs end rest →
    left_read (n ∷ e ∷ ((front ++ back) ++ rest)) ≡ absent →
    said_read (n ∷ e ∷ ((front ++ back) ++ rest)) ≡ found (variable_of (name Global n, (k, (a, [])))) rest
said_variable end n e front back rest k a named equals first second comma next none =
    let begun = begins_one (of_kind Global) n (e ∷ ((front ++ back) ++ rest)) named in
    let ends = never_both (one_sign (mark (codes ",")) ∷ []) (part_more kept) (back ++ rest) variable_apart.kept_ends comma in
    let one = part_found kept variable_apart.kept_told front (back ++ rest) k first ends in
    let two = part_before variable_places variable_apart.places_told line_signs variable_apart.places_ends end back rest a second next in
    said_alone (n ∷ e ∷ ((front ++ back) ++ rest)) (variable_of (name Global n, (k, (a, [])))) rest
    (a_variable_form (n ∷ e ∷ ((front ++ back) ++ rest)) (variable_of (name Global n, (k, (a, [])))) rest begun
    (variable_found n e ((front ++ back) ++ rest) (back ++ rest) rest k a named equals
    (ap (λ z. part_read kept z) (append_assoc front back rest) ∙ one) two (attachments_read end rest next)))
    (number_absent variable_form_starts (n ∷ e ∷ ((front ++ back) ++ rest)) refl begun)
    none
