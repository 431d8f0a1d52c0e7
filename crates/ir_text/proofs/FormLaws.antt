-- Forms and units are read exactly.
use Rattle.std.proofs.Common.{◌≡◌, ℕ, true, false, ◌&&◌, not, ◌⊎◌, inl, inr, List, [], ◌∷◌, ◌++◌, Err, refl, sym, ◌∙◌, ap, subst, append_assoc}
use Rattle.ir_lex.specs.declared.token.Kind.TheVariants.{Local}
use Rattle.ir_values.specs.declared.units.Form.{Form}
use Rattle.ir_values.specs.declared.units.Unit.{Unit as TheUnit}
use Rattle.unit_grammar.specs.declared.stop.Stop.TheVariants.{Deep}
use Rattle.unit_grammar.specs.Pieces.{Piece}
use Rattle.unit_grammar.specs.Signs.{Start, of_kind, begins_any, all_apart}
use Rattle.unit_grammar.specs.Grammar.{Text, Is, Opens}
use Rattle.unit_grammar.specs.Readers.{Read, found, absent, deep, Reader, read, then_read, else_read}
use Rattle.unit_grammar.specs.Beginnings.{one_sign, nullable, starts, more, is_told}
use Rattle.unit_grammar.specs.Exact.{IsFront, Finds, Exact}
use Rattle.unit_grammar.specs.Longest.{IsLongest, NoneBegins}
use Rattle.unit_grammar.specs.Covers.{all_covered}
use Rattle.unit_grammar.proofs.ExactLaws.{then_deep, then_found, found_value, found_rest}
use Rattle.unit_grammar.proofs.GrammarLaws.{is_exact}
use Rattle.unit_grammar.proofs.LongestLaws.{is_longest, none_begins}
use Rattle.type_grammar.specs.Levels.{IsAt, IsAny, OpensAt, levels}
use Rattle.type_grammar.specs.Beginnings.{starts_of, more_of}
use Rattle.type_grammar.specs.Types.{IsPart}
use Rattle.type_grammar.specs.Reading.{reads}
use Rattle.type_grammar.proofs.LevelLaws.{here}
use Rattle.word_grammar.specs.Attached.{dropped_attachments}
use Rattle.head_grammar.specs.Heads.{declare_form, define_form}
use Rattle.head_grammar.specs.Variables.{variable_form}
use Rattle.head_grammar.proofs.HeadLaws.{declare_told, define_told, variable_told}
use Rattle.instruction_grammar.specs.Actions.{action, plain_action}
use Rattle.instruction_grammar.proofs.ActionLaws.{action_told, plain_action_told}
use Rattle.module_grammar.specs.Headers.{header}
use Rattle.module_grammar.specs.Items.{type_body, comdat, attributes, label, close}
use Rattle.module_grammar.specs.Metadata.{metadata}
use Rattle.module_grammar.specs.Tables.{table}
use Rattle.module_grammar.specs.Summaries.{IsEntry}
use Rattle.module_grammar.specs.LeftUnits.{IsLeftUnit}
use Rattle.module_grammar.specs.Beginnings.{left_starts}
use Rattle.module_grammar.specs.Reading as lines
use Rattle.module_grammar.proofs.FormLaws.{header_told, type_body_told, comdat_told, attributes_told, label_told, close_told, metadata_told, table_told}
use Rattle.module_grammar.proofs.EntryLaws.{entry_exact, entry_tells}
use Rattle.module_grammar.proofs.LeftLaws.{left_exact, left_tells}
use Rattle.ir_text.specs.Choices.{Else, flat, IsChosen}
use Rattle.ir_text.specs.Forms.{named_body, named, body_form, module_form, form, number_head, number_form}
use Rattle.ir_text.specs.Units.{IsFormWithin, IsForm, IsTooDeep, IsNumber, IsLeft, IsLast, first_bytes, Says, IsUnit, IsUnitWithin}
use Rattle.ir_text.specs.UnitReaders.{form_read, number_read, left_read, last_read, said_read, unit_read}
use Rattle.ir_text.proofs.ChoiceLaws.{nothing_begins, prefer_chosen}
use Rattle.ir_text.proofs.UnionLaws.{Either, IsBegun, part_begun, flat_begun, either_begun}
use Rattle.ir_text.proofs.InstructionStarts.{action_starts, action_some, action_covered, plain_action_starts, plain_action_some, plain_action_covered, body_apart, body_some, number_head_told, number_head_more, attached_told, attached_flat, number_told, number_some}
use Rattle.ir_text.proofs.HeadStarts.{declare_form_starts, declare_form_some, declare_form_covered, define_form_starts, define_form_some, define_form_covered, variable_form_starts, variable_form_some, variable_form_covered}
use Rattle.ir_text.proofs.ModuleStarts.{header_starts, header_some, header_covered, comdat_starts, comdat_some, comdat_covered, attributes_starts, attributes_some, attributes_covered, label_starts, label_some, label_covered, close_starts, close_some, close_covered, metadata_starts, metadata_some, metadata_covered, table_starts, table_some, table_covered, entry_starts, entry_covered}

-- types and instructions that set a register

pub body_told : is_told starts_of more_of named_body ≡ true
unfolding named_body
body_told = rw (type_body_told, action_told, body_some, action_some, body_apart) refl

pub named_told : is_told starts_of more_of named ≡ true
unfolding named
named_told = rw body_told refl

abbrev pub named_starts : List Start
named_starts = one_sign (of_kind Local) ∷ []

pub named_some : nullable named ≡ false
unfolding named
named_some = refl

pub named_covered : all_covered named_starts (starts starts_of named) ≡ true
unfolding named
named_covered = refl

-- forms

pub body_begun : IsBegun (Is (IsAt levels) body_form) (Is IsAny body_form) (Opens (IsAt levels) (OpensAt levels) body_form) (read (reads levels) body_form)
    (named_starts ++ action_starts ++ plain_action_starts ++ label_starts ++ close_starts)
unfolding body_form
body_begun =
    either_begun (part_begun named named_starts named_told named_some named_covered)
    (either_begun (part_begun action action_starts action_told action_some action_covered)
    (either_begun (part_begun plain_action plain_action_starts plain_action_told plain_action_some plain_action_covered)
    (either_begun (part_begun label label_starts label_told label_some label_covered)
    (part_begun close close_starts close_told close_some close_covered) refl) refl) refl) refl

module_begun : IsBegun (Is (IsAt levels) module_form) (Is IsAny module_form) (Opens (IsAt levels) (OpensAt levels) module_form) (read (reads levels) module_form)
    (variable_form_starts ++ metadata_starts ++ define_form_starts ++ declare_form_starts ++ attributes_starts ++ comdat_starts ++ header_starts ++ table_starts)
unfolding module_form
module_begun =
    either_begun (part_begun variable_form variable_form_starts variable_told variable_form_some variable_form_covered)
    (either_begun (part_begun metadata metadata_starts metadata_told metadata_some metadata_covered)
    (either_begun (part_begun define_form define_form_starts define_told define_form_some define_form_covered)
    (either_begun (part_begun declare_form declare_form_starts declare_told declare_form_some declare_form_covered)
    (either_begun (part_begun attributes attributes_starts attributes_told attributes_some attributes_covered)
    (either_begun (part_begun comdat comdat_starts comdat_told comdat_some comdat_covered)
    (either_begun (part_begun header header_starts header_told header_some header_covered)
    (part_begun table table_starts table_told table_some table_covered) refl) refl) refl) refl) refl) refl) refl

entry_never : (ts : List Piece) → lines.entry_read ts ≡ deep → ⊥
entry_never ts e = entry_tells [] ts (Err Deep) e

entry_begun : IsBegun (IsEntry (IsAt levels)) (IsEntry IsAny) (λ _. ⊥) lines.entry_read entry_starts
entry_begun = flat_begun entry_starts refl entry_covered entry_exact entry_never

all_begun : IsBegun (Either (Is (IsAt levels) form) (IsEntry (IsAt levels))) (Either (Is IsAny form) (IsEntry IsAny))
    (λ ts. Opens (IsAt levels) (OpensAt levels) form ts ⊎ ⊥) (λ ts. else_read (read (reads levels) form ts) (lines.entry_read ts))
    (((named_starts ++ action_starts ++ plain_action_starts ++ label_starts ++ close_starts)
    ++ (variable_form_starts ++ metadata_starts ++ define_form_starts ++ declare_form_starts ++ attributes_starts ++ comdat_starts ++ header_starts ++ table_starts))
    ++ entry_starts)
unfolding form
all_begun = either_begun (either_begun body_begun module_begun refl) entry_begun refl

form_chosen : IsChosen IsFormWithin IsForm IsTooDeep form_read
unfolding IsFormWithin IsForm IsTooDeep form_read
form_chosen =
    let chosen = all_begun.chosen in
    record {
      some = chosen.some;
      within = chosen.within;
      longest = chosen.longest;
      none = chosen.none;
      opened = λ ts e. elim (chosen.opened ts e) [ inl h ↦ h | inr h ↦ absurd h ];
      deepens = λ ts o. chosen.deepens ts (inl o);
    }

some_exact : {A : Type 0} {P Q : Text A} {D : Type 0} {O : List Piece → Type 0} {p : Reader A} {S M : List Start} (z : _) → z ≡ false →
    Exact P Q D O p S M z → Exact P Q D O p S M false
some_exact {A} {P} {Q} {D} {O} {p} {S} {M} z e h = subst (λ y. Exact P Q D O p S M y) e h

-- the number of a pointer

-- where a text stands, none is opened too deep in its first part, behind which nothing makes it longer
no_deeper : {A B : Type 0} (P : Text A) (R : Text B) (O : List Piece → Type 0) (p : Reader A) (q : Reader B) (S M : List Start) (z : _) →
    Exact P P ⊥ O p S M z → M ≡ [] → ((ts : List Piece) → q ts ≡ deep → ⊥) → (ts : List Piece) →
    then_read {B = A × B} (p ts) (λ a rest. then_read (q rest) (λ b last. found (a, b) last)) ≡ deep →
    (front back rest : List Piece) (a : A) → P front a → ts ≡ (front ++ back) ++ rest → ⊥
no_deeper {A} {B} P R O p q S M z h none flat ts e front back rest a is splits =
    elim (then_deep (p ts) (λ (x : A) (others : List Piece). then_read {B = A × B} (q others) (λ b last. found (x, b) last)) e) [
      | inl here ↦ first here
      | inr later ↦ second later.0 later.1 later.3
    ]
  where
    ends : begins_any M (back ++ rest) ≡ false
    ends = rw none refl

    first : p ts ≡ deep → ⊥
    first here =
        let finds = h.finds front (back ++ rest) a is ends in
        let same : p (front ++ (back ++ rest)) ≡ deep = ap p (sym (splits ∙ append_assoc front back rest)) ∙ here in
        subst (λ (x : Read A). Finds ⊥ x a (back ++ rest)) same finds

    second : (x : A) (mid : List Piece) → then_read {B = A × B} (q mid) (λ b last. found (x, b) last) ≡ deep → ⊥
    second x mid later =
        elim (then_deep (q mid) (λ (b : B) (last : List Piece). found (x, b) last) later) [
          | inl here ↦ flat mid here
          | inr there ↦ absurd (cc there.3)
        ]

both_deep : {A B C : Type 0} (p : Reader A) (q : Reader B) (f : A × B → C) (ts : List Piece) →
    then_read {B = C} (then_read {B = A × B} (p ts) (λ a rest. then_read (q rest) (λ b last. found (a, b) last))) (λ x rest. found (f x) rest) ≡ deep →
    then_read {B = A × B} (p ts) (λ a rest. then_read (q rest) (λ b last. found (a, b) last)) ≡ deep
both_deep {A} {B} {C} p q f ts e =
    elim (then_deep (then_read {B = A × B} (p ts) (λ a rest. then_read (q rest) (λ b last. found (a, b) last))) (λ (x : A × B) (rest : List Piece). found (f x) rest) e) [
      | inl h ↦ h
      | inr h ↦ absurd (cc h.3)
    ]

number_none : (ts : List Piece) → read (reads levels) number_form ts ≡ deep → NoneBegins (Is (IsAt levels) number_form) ts
unfolding number_form
number_none ts e a rest f =
    let (x, is, same) = f.is in
    let (front, back, isf, isg, splits) = is in
    let head = is_exact (IsAt levels) (IsAt levels) ⊥ (OpensAt levels) (reads levels) starts_of more_of (here levels) number_head number_head_told in
    let tail = is_exact (IsAt levels) (IsAt levels) ⊥ (OpensAt levels) (reads levels) starts_of more_of (here levels) dropped_attachments attached_told in
    no_deeper (Is (IsAt levels) number_head) (Is (IsAt levels) dropped_attachments) (Opens (IsAt levels) (OpensAt levels) number_head)
    (read (reads levels) number_head) (read (reads levels) dropped_attachments) (starts starts_of number_head) (more starts_of more_of number_head) (nullable number_head) head
    number_head_more (λ us d. attached_flat us (tail.opened us d)) ts
    (both_deep (read (reads levels) number_head) (read (reads levels) dropped_attachments) _ ts e) front back rest x.0 isf (f.splits ∙ ap (λ us. us ++ rest) splits)

flat_found : {A : Type 0} (x : Read A) (a : A) (rest : List Piece) → flat x ≡ found a rest → x ≡ found a rest
flat_found (found b after) a rest e = e
flat_found absent a rest e = absurd cc
flat_found deep a rest e = absurd cc

flat_absent : {A : Type 0} (x : Read A) → flat x ≡ absent → (x ≡ absent) ⊎ (x ≡ deep)
flat_absent (found b after) e = absurd cc
flat_absent absent e = inl refl
flat_absent deep e = inr refl

flat_never : {A : Type 0} (x : Read A) → flat x ≡ deep → ⊥
flat_never (found b after) e = cc
flat_never absent e = cc
flat_never deep e = cc

number_chosen : IsChosen IsNumber IsNumber (λ _. ⊥) number_read
unfolding IsNumber number_read
number_chosen =
    let exact = some_exact (nullable number_form) number_some
    (is_exact (IsAt levels) (IsAt levels) ⊥ (OpensAt levels) (reads levels) starts_of more_of (here levels) number_form number_told) in
    record {
      some = λ a is. elim (exact.starts [] a is) [ inl e ↦ absurd (cc e.1) | inr e ↦ nothing_begins (starts starts_of number_form) e ];
      within = λ ts a is. is;
      longest = λ ts a rest e. is_longest exact ts a rest (flat_found (read (reads levels) number_form ts) a rest e);
      none = λ ts e. elim (flat_absent (read (reads levels) number_form ts) e) [ inl h ↦ none_begins exact ts h | inr h ↦ number_none ts h ];
      opened = λ ts e. flat_never (read (reads levels) number_form ts) e;
      deepens = λ ts o. absurd o;
    }

-- what is left out

left_never : (ts : List Piece) → lines.left_read ts ≡ deep → ⊥
left_never ts e = left_tells [] ts (Err Deep) e

narrow : {A : Type 0} {P Q : Text A} {ts : List Piece} {a : A} {rest : List Piece} → ((us : List Piece) (b : A) → P us b → Q us b) →
    IsLongest P Q ts a rest → IsLongest P P ts a rest
narrow within h = record {
  stands = h.stands;
  longest = λ b after f. h.longest b after (record { front = f.front; is = within f.front b f.is; splits = f.splits });
}

left_chosen : IsChosen IsLeft IsLeft (λ _. ⊥) left_read
unfolding IsLeft left_read
left_chosen = record {
  some = λ a is. elim (left_exact.starts [] a (left_exact.within [] a is)) [ inl e ↦ absurd (cc e.1) | inr e ↦ nothing_begins left_starts e ];
  within = λ ts a is. is;
  longest = λ ts a rest e. narrow left_exact.within (is_longest left_exact ts a rest e);
  none = λ ts e b after f.
      none_begins left_exact ts e b after (record { front = f.front; is = left_exact.within f.front b f.is; splits = f.splits });
  opened = λ ts e. left_never ts e;
  deepens = λ ts o. absurd o;
}

-- units

last_chosen : IsChosen IsLast IsLast (λ _. ⊥) last_read
unfolding last_read
last_chosen = prefer_chosen number_chosen left_chosen

said_chosen : IsChosen (Else IsFormWithin IsForm IsLast) (Else IsForm IsForm IsLast) IsTooDeep said_read
unfolding said_read
said_chosen = prefer_chosen form_chosen last_chosen

first_front : (P : Text Form) (front rest : List Piece) (a : Form) → (P [] a → ⊥) → P front a → first_bytes (front ++ rest) ≡ first_bytes front
first_front P [] rest a none is = absurd (none is)
first_front P (t ∷ ts) rest a none is = refl

abbrev unit_with : List ℕ → Form → TheUnit
unit_with bytes f = record { first = bytes; form = f }

abbrev says_read : Reader Form → Reader TheUnit
says_read p ts = then_read (p ts) (λ f rest. found (unit_with (first_bytes ts) f) rest)

says_longest : (P Q : Text Form) (ts rest : List Piece) (f : Form) → ((us : List Piece) (b : Form) → P us b → Q us b) → ((a : Form) → Q [] a → ⊥) →
    IsLongest P Q ts f rest → IsLongest (Says P) (Says Q) ts (unit_with (first_bytes ts) f) rest
says_longest P Q ts rest f within some h = record {
  stands = record {
    front = h.stands.front;
    is = (h.stands.is, ap first_bytes h.stands.splits ∙ first_front Q h.stands.front rest f (some f) (within h.stands.front f h.stands.is));
    splits = h.stands.splits;
  };
  longest = λ u after g.
      elim (h.longest u.form after (record { front = g.front; is = g.is.0; splits = g.splits })) [
        | inl less ↦ inl less
        | inr same ↦ inr (
          ap (λ z. unit_with (first_bytes ts) z) same.0
              ∙ ap (λ z. unit_with z u.form) (ap first_bytes g.splits ∙ first_front Q g.front after u.form (some u.form) g.is.0 ∙ sym g.is.1),
          same.1,
        )
      ];
}

says_chosen : {P Q : Text Form} {O : List Piece → Type 0} {p : Reader Form} → IsChosen P Q O p → IsChosen (Says P) (Says Q) O (says_read p)
says_chosen {P} {Q} {O} {p} h = record {
  some = λ u is. h.some u.form is.0;
  within = λ ts u is. (h.within ts u.form is.0, is.1);
  longest = λ ts u rest e.
      let (f, mid, isf, same) = then_found (p ts) (λ (f : Form) (last : List Piece). found (unit_with (first_bytes ts) f) last) u rest e in
      let whole = says_longest P Q ts mid f h.within h.some (h.longest ts f mid isf) in
      subst (λ (z : List Piece). IsLongest (Says P) (Says Q) ts u z) (found_rest same)
      (subst (λ (z : TheUnit). IsLongest (Says P) (Says Q) ts z mid) (found_value same) whole);
  none = λ ts e u rest f. h.none ts (says_absent (p ts) ts e) u.form rest (record { front = f.front; is = f.is.0; splits = f.splits });
  opened = λ ts e. h.opened ts (says_deep (p ts) ts e);
  deepens = λ ts o. rw (h.deepens ts o) refl;
}
  where
    says_absent : (x : Read Form) (ts : List Piece) → then_read {B = TheUnit} x (λ f rest. found (unit_with (first_bytes ts) f) rest) ≡ absent → x ≡ absent
    says_absent (found a rest) ts e = absurd cc
    says_absent absent ts e = refl
    says_absent deep ts e = absurd cc

    says_deep : (x : Read Form) (ts : List Piece) → then_read {B = TheUnit} x (λ f rest. found (unit_with (first_bytes ts) f) rest) ≡ deep → x ≡ deep
    says_deep (found a rest) ts e = absurd cc
    says_deep absent ts e = absurd cc
    says_deep deep ts e = refl

pub unit_chosen : IsChosen IsUnitWithin IsUnit IsTooDeep unit_read
unfolding unit_read
unit_chosen = says_chosen said_chosen
