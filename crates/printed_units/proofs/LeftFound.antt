-- Where nothing is left out, and how far a left unit goes.
use Rattle.std.proofs.Common.{◌≡◌, ℕ, ◌≤◌, Bool, true, false, cond, List, [], ◌∷◌, ◌++◌, inl, length, map, codes, Some, refl, arith}
use Rattle.ir_lex.specs.declared.token.Kind.TheVariants.{Global, Local}
use Rattle.ir_values.specs.declared.units.Form.TheVariants.{LeftForm}
use Rattle.unit_grammar.specs.Pieces.{Piece}
use Rattle.unit_grammar.specs.Signs.{Sign, of_kind, mark, words, passes, Start, begins_any, all_apart}
use Rattle.unit_grammar.specs.Beginnings.{one_sign}
use Rattle.unit_grammar.specs.Readers.{found, absent}
use Rattle.unit_grammar.proofs.BoolLemmas.{and_true}
use Rattle.unit_grammar.proofs.SignLaws.{signs_apart, never_both, begins_one, begins_not, none_of_both}
use Rattle.word_grammar.specs.Linkage.{linkage_words}
use Rattle.module_grammar.specs.LeftUnits.{early_word, early_run, left_words, left_word, telling_word, plain_head, left_name, named_head, numbered_head, left_head, carried_words}
use Rattle.module_grammar.specs.Lines.{stops}
use Rattle.module_grammar.specs.Reading as lines
use Rattle.module_grammar.specs.Reading.{line_rest}
use Rattle.module_grammar.specs.Beginnings.{left_starts}
use Rattle.module_grammar.proofs.LeftLaws.{left_exact}
use Rattle.ir_text.proofs.ModuleStarts.{table_starts}
use Rattle.ir_text.specs.UnitReaders.{left_read}
use Rattle.printed_units.proofs.LookLemmas.{end_of, Follows, none_follows, line_signs}
use Rattle.printed_units.proofs.PartsFound.{IsText, part_read, part_starts, part_more, part_found, part_absent, part_apart}
use Rattle.printed_units.proofs.HeadApart.{kept_signs, left_apart}

pub left_absent : (S : List Start) (ts : List Piece) → all_apart S left_starts ≡ true → begins_any S ts ≡ true → left_read ts ≡ absent
unfolding left_read
left_absent S ts apart begun = left_exact.absent_at ts refl (never_both S left_starts ts apart begun)

-- behind `%r =` and `@G =`

abbrev name_signs : List Sign
name_signs = of_kind Local ∷ of_kind Global ∷ []

set_local : (t : Piece) (ts : List Piece) → passes (of_kind Local) t ≡ true → part_read left_name (t ∷ ts) ≡ found tt ts
unfolding left_name
set_local t ts p = rw (signs_apart (of_kind Local) (of_kind Global) t refl p, p) refl

set_global : (t : Piece) (ts : List Piece) → passes (of_kind Global) t ≡ true → part_read left_name (t ∷ ts) ≡ found tt ts
unfolding left_name
set_global t ts p = rw p refl

named_absent : (t e : Piece) (ts : List Piece) → part_read left_name (t ∷ e ∷ ts) ≡ found tt (e ∷ ts) → passes (mark (codes "=")) e ≡ true →
    part_read plain_head ts ≡ absent → part_read named_head (t ∷ e ∷ ts) ≡ absent
unfolding named_head
named_absent t e ts named equals none = rw (named, equals, none) refl

head_absent : (ts : List Piece) → part_read named_head ts ≡ absent → begins_any (map one_sign name_signs) ts ≡ true → left_read ts ≡ absent
unfolding left_read lines.left_read left_head
head_absent ts none begun =
    let numbered = part_apart left_apart.numbered_told (map one_sign name_signs) ts left_apart.numbered_names begun in
    let plain = part_apart left_apart.plain_told (map one_sign name_signs) ts left_apart.plain_names begun in
    rw (none, numbered, plain) refl

pub local_absent : (t e : Piece) (ts : List Piece) → passes (of_kind Local) t ≡ true → passes (mark (codes "=")) e ≡ true →
    begins_any (part_starts plain_head) ts ≡ false → left_read (t ∷ e ∷ ts) ≡ absent
local_absent t e ts named equals none =
    head_absent (t ∷ e ∷ ts)
    (named_absent t e ts (set_local t (e ∷ ts) named) equals (part_absent left_apart.plain_told ts none))
    (rw named refl)

-- a variable's words before its kind leave nothing out

one_early : (k : Piece) → passes (words linkage_words) k ≡ true → IsText early_run (k ∷ []) tt
unfolding early_run early_word
one_early k early = (tt ∷ [], (k ∷ [], [], inl (k, [], early, (refl, refl), refl), refl, refl), refl)

early_read : (k : Piece) (ts : List Piece) → passes (words linkage_words) k ≡ true → begins_any (map one_sign kept_signs) ts ≡ true →
    part_read plain_head (k ∷ ts) ≡ absent
unfolding plain_head
early_read k ts early begun =
    let ends = never_both (map one_sign kept_signs) (part_more early_run) ts left_apart.early_kept begun in
    let one = part_found early_run left_apart.early_told (k ∷ []) ts tt (one_early k early) ends in
    let none = part_apart left_apart.telling_told (map one_sign kept_signs) ts left_apart.telling_kept begun in
    rw (one, none) refl

kind_read : (ts : List Piece) → begins_any (map one_sign kept_signs) ts ≡ true → part_read plain_head ts ≡ absent
kind_read ts begun = part_apart left_apart.plain_told (map one_sign kept_signs) ts left_apart.plain_kept begun

global_absent : (t e : Piece) (ts : List Piece) → passes (of_kind Global) t ≡ true → passes (mark (codes "=")) e ≡ true →
    part_read plain_head ts ≡ absent → left_read (t ∷ e ∷ ts) ≡ absent
global_absent t e ts named equals none =
    head_absent (t ∷ e ∷ ts) (named_absent t e ts (set_global t (e ∷ ts) named) equals none)
    (rw (signs_apart (of_kind Global) (of_kind Local) t refl named, named) refl)

pub kind_absent : (t e : Piece) (ts : List Piece) → passes (of_kind Global) t ≡ true → passes (mark (codes "=")) e ≡ true →
    begins_any (map one_sign kept_signs) ts ≡ true → left_read (t ∷ e ∷ ts) ≡ absent
kind_absent t e ts named equals begun = global_absent t e ts named equals (kind_read ts begun)

pub linkage_absent : (t e k : Piece) (ts : List Piece) → passes (of_kind Global) t ≡ true → passes (mark (codes "=")) e ≡ true →
    passes (words linkage_words) k ≡ true → begins_any (map one_sign kept_signs) ts ≡ true → left_read (t ∷ e ∷ k ∷ ts) ≡ absent
linkage_absent t e k ts named equals early begun = global_absent t e (k ∷ ts) named equals (early_read k ts early begun)

-- where a left-out word tells

one_telling : (p : Piece) → passes (words left_words) p ≡ true → IsText plain_head (p ∷ []) (Some p.bytes, p.end)
unfolding plain_head early_run telling_word left_word
one_telling p passed = ((tt, (Some p.bytes, p.end)), ([], p ∷ [], ([], refl, refl), inl (p, refl, passed, refl), refl), refl)

telling_found : (p : Piece) (ts : List Piece) → passes (words left_words) p ≡ true →
    part_read plain_head (p ∷ ts) ≡ found (Some p.bytes, p.end) ts
telling_found p ts passed =
    part_found plain_head left_apart.plain_told.told (p ∷ []) ts (Some p.bytes, p.end) (one_telling p passed) (rw left_apart.plain_ends refl)

pub set_left : (t e p : Piece) (ts : List Piece) → passes (of_kind Local) t ≡ true → passes (mark (codes "=")) e ≡ true →
    passes (words left_words) p ≡ true → left_read (t ∷ e ∷ p ∷ ts) ≡ found (LeftForm p.bytes) (line_rest carried_words p.end ts)
unfolding left_read lines.left_read left_head named_head
set_left t e p ts named equals passed = rw (set_local t (e ∷ p ∷ ts) named, equals, telling_found p ts passed) refl

pub word_left : (p : Piece) (ts : List Piece) → passes (words (codes "jumptable" ∷ [])) p ≡ true → passes (words left_words) p ≡ true →
    left_read (p ∷ ts) ≡ found (LeftForm p.bytes) (line_rest carried_words p.end ts)
unfolding left_read lines.left_read left_head
word_left p ts named passed =
    let begun = begins_one (words (codes "jumptable" ∷ [])) p ts named in
    let (first, second) = none_of_both (part_starts named_head) (part_starts numbered_head) (p ∷ ts)
    (never_both table_starts (part_starts named_head ++ part_starts numbered_head) (p ∷ ts) left_apart.others_words begun) in
    rw (
      part_absent left_apart.named_told (p ∷ ts) first,
      part_absent left_apart.numbered_told (p ∷ ts) second,
      telling_found p ts passed,
    ) refl

-- a left unit ends before the next line

line_ends : (carried : List (List ℕ)) (end : ℕ) (front : List Piece) (r : Piece) (rest : List Piece) →
    stops carried (end_of end front) r ≡ true →
    length (r ∷ rest) ≤ length (line_rest carried end (front ++ r ∷ rest))
line_ends carried end [] r rest stop = rw stop (omega arith)
line_ends carried end (t ∷ front) r rest stop = go (stops carried end t) (line_ends carried t.end front r rest stop)
  where
    less : (us : List Piece) → length (r ∷ rest) ≤ length (t ∷ (us ++ r ∷ rest))
    less [] = omega arith
    less (u ∷ us) = let h = less us in omega arith

    go : (b : Bool) → length (r ∷ rest) ≤ length (line_rest carried t.end (front ++ r ∷ rest)) →
        length (r ∷ rest) ≤ length (cond b (t ∷ (front ++ r ∷ rest)) (line_rest carried t.end (front ++ r ∷ rest)))
    go true h = less front
    go false h = h

carried_apart : all_apart (map one_sign line_signs) (one_sign (words carried_words) ∷ []) ≡ true
unfolding carried_words
carried_apart = refl

not_carried : (end : ℕ) (r : Piece) (rest : List Piece) → Follows line_signs end (r ∷ rest) → passes (words carried_words) r ≡ false
not_carried end r rest h =
    begins_not (words carried_words) r rest (none_follows line_signs (one_sign (words carried_words) ∷ []) end (r ∷ rest) carried_apart h)

pub left_ends : (end : ℕ) (front rest : List Piece) → Follows line_signs (end_of end front) rest →
    length rest ≤ length (line_rest carried_words end (front ++ rest))
left_ends end front [] h = omega arith
left_ends end front (r ∷ rest) h =
    line_ends carried_words end front r rest (and_true _ _ h.1 (rw (not_carried (end_of end front) r rest h) refl))
