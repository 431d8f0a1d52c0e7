-- Lines, and which token stands first on one.
use Rattle.std.proofs.Common.{◌≡◌, ℕ, zero, suc, ◌+◌, ◌-◌, ◌<◌, ◌≤◌, ◌≢◌, Bool, true, false, not, ◌||◌, ◌==◌, ◌⊎◌, inl, inr, List, [], ◌∷◌, ◌++◌, length, take, drop, codes, refl, ap, sym, ◌∙◌, subst, arith}
use Rattle.std.specs.Prelude.{slice_range, fold, IsTrue}
use Rattle.std.specs.List.{list_any, list_all, AllByRecursion}
use Rattle.std.specs.Char.{is_ascii_digit, is_ascii_hexdigit}
use Rattle.std.proofs.lemmas.Bool.Decides.{nat_tests}
use Rattle.std.proofs.lemmas.List.{drop-drop}
use Rattle.std.proofs.lemmas.List.Sums.{fold-append}
use Rattle.std.proofs.Math.Seq.{take-add}
use Rattle.ltt_base.specs.declared.refusal.Place.{Place}
use Rattle.ir_lex.specs.declared.token.Kind.{Kind}
use Rattle.ir_lex.specs.declared.token.Kind.TheVariants.{Word, Label, Global, Local, Comdat, Meta, MetaText, Group, SummaryNumber, HashWord, Number, Float, Quoted, Bytes, Mark, Dots}
use Rattle.ir_lex.specs.declared.token.Token.{Token}
use Rattle.ir_lex.specs.Letters.{is_of, is_line_end, is_word_start, is_word_byte, is_name_start, is_name_byte, is_meta_start, is_meta_byte, is_mark}
use Rattle.ir_lex.specs.Languages.{IsOne, IsByte, IsMany, IsThen, IsEither, IsMaybe, IsRun}
use Rattle.ir_lex.specs.Kinds.{IsDigits, IsWord, IsQuoted, IsQuotedName, IsName, IsExponent, IsDecimal, IsHex, Is, Begins}
use Rattle.ir_lex.specs.Places.{place_at, place_behind, breaks_line}
use Rattle.ir_lex.specs.Texts.{IsNext, TokensThen, TokensFrom, IsOffLine, StandsFirst}
use Rattle.ir_lex.specs.Laws.{LinesTellFirst}
use Rattle.ir_lex.proofs.CaseSplits.{test}
use Rattle.ir_lex.proofs.LengthLaws.{First}
use Rattle.ir_lex.proofs.ChoiceLaws.{begins}
use Rattle.ir_lex.proofs.TextLaws.{begins_first, front_some}

-- lines do not fall, and rise over the end of one

line_same : (place : Place) (bytes : List ℕ) → list_any is_line_end bytes ≡ false → (fold place_behind place bytes).line ≡ place.line
line_same place [] none = refl
line_same place (b ∷ bytes) none =
    test (is_line_end b)
    (λ t. absurd (let h = rw t at none in cc))
    (λ t. let h = rw t at none in line_same (place_behind place b) bytes h ∙ rw t refl)

line_step : (place : Place) (b : ℕ) → place.line ≤ (place_behind place b).line
line_step place b = test (is_line_end b) (λ t. rw t (omega arith)) (λ t. rw t (omega arith))

line_up : (place : Place) (bytes : List ℕ) → place.line ≤ (fold place_behind place bytes).line
line_up place [] = omega arith
line_up place (b ∷ bytes) = let e = line_step place b in let d = line_up (place_behind place b) bytes in omega arith

line_over : (place : Place) (bytes : List ℕ) → list_any is_line_end bytes ≡ true → place.line < (fold place_behind place bytes).line
line_over place [] some = absurd cc
line_over place (b ∷ bytes) some =
    test (is_line_end b)
    (λ t. let e : (place_behind place b).line ≡ place.line + 1 = rw t refl in let d = line_up (place_behind place b) bytes in omega arith)
    (λ t. let h = rw t at some in let e = line_step place b in let d = line_over (place_behind place b) bytes h in omega arith)

place_split : (file : ℕ) (text : List ℕ) (low high : ℕ) → low ≤ high →
    place_at file text high ≡ fold place_behind (place_at file text low) (slice_range text low high)
unfolding place_at
place_split file text low high order =
    let e : high ≡ low + (high - low) = omega arith in
    let d : take high text ≡ take low text ++ slice_range text low high = ap (λ k. take k text) e ∙ take-add low (high - low) text in
    ap (λ bytes. fold place_behind (record { file = file; line = 1; column = 1 }) bytes) d ∙ fold-append place_behind _ (take low text) (slice_range text low high)

at_least : (file : ℕ) (text : List ℕ) (low high : ℕ) → low ≤ high → (place_at file text low).line ≤ (place_at file text high).line
at_least file text low high order =
    let e = place_split file text low high order in
    let d = line_up (place_at file text low) (slice_range text low high) in
    rw e d

same_line : (file : ℕ) (text : List ℕ) (low high : ℕ) → low ≤ high → breaks_line text low high ≡ false →
    (place_at file text high).line ≡ (place_at file text low).line
same_line file text low high order none =
    ap (λ p. p.line) (place_split file text low high order) ∙ line_same (place_at file text low) (slice_range text low high) none

later_line : (file : ℕ) (text : List ℕ) (low high : ℕ) → low ≤ high → breaks_line text low high ≡ true →
    (place_at file text low).line < (place_at file text high).line
later_line file text low high order some =
    let e = place_split file text low high order in
    let d = line_over (place_at file text low) (slice_range text low high) some in
    rw e d

-- no token ends with the end of a line

abbrev ends_line : List ℕ → Bool
ends_line [] = false
ends_line (b ∷ []) = is_line_end b
ends_line (b ∷ c ∷ bytes) = ends_line (c ∷ bytes)

abbrev Closed : (List ℕ → Type 0) → Type 0
Closed P = (bytes : List ℕ) → P bytes → ends_line bytes ≡ false

clash : (v : Bool) → v ≡ true → v ≡ false → ⊥
clash true e d = cc
clash false e d = cc

-- a test that refuses the end of a line
apart_end : (p : ℕ → Bool) → p 10 ≡ false → (b : ℕ) → p b ≡ true → is_line_end b ≡ false
apart_end p none b t =
    test (is_line_end b)
    (λ u. absurd (let e : b ≡ 10 = grind (arith, nat_tests) in let P : ℕ → Type 0 = λ c. p c ≡ true in let d : p 10 ≡ true = subst P e t in clash (p 10) d none))
    (λ u. u)

closed_one : (p : ℕ → Bool) → p 10 ≡ false → Closed (IsOne p)
closed_one p none [] is = absurd is
closed_one p none (b ∷ []) is = apart_end p none b is
closed_one p none (b ∷ c ∷ bytes) is = absurd is

closed_many : (p : ℕ → Bool) → p 10 ≡ false → Closed (IsMany p)
closed_many p none [] is = refl
closed_many p none (b ∷ []) is = test (p b) (λ t. apart_end p none b t) (λ t. absurd (let h = rw t at is in cc))
closed_many p none (b ∷ c ∷ bytes) is = test (p b) (λ t. let h = rw t at is in closed_many p none (c ∷ bytes) h) (λ t. absurd (let h = rw t at is in cc))

ends_joined : (front back : List ℕ) → ends_line front ≡ false → ends_line back ≡ false → ends_line (front ++ back) ≡ false
ends_joined [] back e d = d
ends_joined (b ∷ []) [] e d = e
ends_joined (b ∷ []) (c ∷ back) e d = d
ends_joined (b ∷ c ∷ front) back e d = ends_joined (c ∷ front) back e d

ends_last : (front back : List ℕ) → 0 < length back → ends_line back ≡ false → ends_line (front ++ back) ≡ false
ends_last [] back some d = d
ends_last (b ∷ []) [] some d = absurd (omega arith)
ends_last (b ∷ []) (c ∷ back) some d = d
ends_last (b ∷ c ∷ front) back some d = ends_last (c ∷ front) back some d

closed_then : (P Q : List ℕ → Type 0) → Closed P → Closed Q → Closed (IsThen P Q)
closed_then P Q p q bytes is = rw is.joined (ends_joined is.front is.back (p is.front is.first) (q is.back is.second))

one_some : (p : ℕ → Bool) (bytes : List ℕ) → IsOne p bytes → 0 < length bytes
one_some p [] is = absurd is
one_some p (b ∷ bytes) is = omega arith

closed_last : (P : List ℕ → Type 0) (p : ℕ → Bool) → p 10 ≡ false → Closed (IsThen P (IsOne p))
closed_last P p none bytes is = rw is.joined (ends_last is.front is.back (one_some p is.back is.second) (closed_one p none is.back is.second))

closed_either : (P Q : List ℕ → Type 0) → Closed P → Closed Q → Closed (IsEither P Q)
closed_either P Q p q bytes (inl is) = p bytes is
closed_either P Q p q bytes (inr is) = q bytes is

closed_maybe : (P : List ℕ → Type 0) → Closed P → Closed (IsMaybe P)
closed_maybe P p bytes (inl none) = rw none refl
closed_maybe P p bytes (inr is) = p bytes is

closed_run : (p q : ℕ → Bool) → p 10 ≡ false → q 10 ≡ false → Closed (IsRun p q)
closed_run p q a b = closed_then (IsOne p) (IsMany q) (closed_one p a) (closed_many q b)

closed_behind : (c : ℕ) (Q : List ℕ → Type 0) → (10 == c) ≡ false → Closed Q → Closed (IsThen (IsByte c) Q)
closed_behind c Q none q = closed_then (IsByte c) Q (closed_one (λ b. b == c) none) q

closed_digits : Closed IsDigits
closed_digits = closed_run is_ascii_digit is_ascii_digit refl refl

closed_quoted : Closed IsQuoted
closed_quoted = closed_behind 34 (IsThen (IsMany (λ b. not (b == 34))) (IsByte 34)) refl (closed_last (IsMany (λ b. not (b == 34))) (λ b. b == 34) refl)

closed_name : Closed IsName
closed_name = closed_either (IsRun is_name_start is_name_byte) (IsEither IsDigits IsQuotedName) (closed_run is_name_start is_name_byte refl refl)
    (closed_either IsDigits IsQuotedName closed_digits (λ bytes is. closed_quoted bytes is.0))

closed_sign : Closed (IsMaybe (IsOne (is_of (codes "-+"))))
closed_sign = closed_maybe (IsOne (is_of (codes "-+"))) (closed_one (is_of (codes "-+")) refl)

closed_exponent : Closed IsExponent
closed_exponent = closed_then (IsOne (is_of (codes "eE"))) (IsThen (IsMaybe (IsOne (is_of (codes "-+")))) IsDigits) (closed_one (is_of (codes "eE")) refl)
    (closed_then (IsMaybe (IsOne (is_of (codes "-+")))) IsDigits closed_sign closed_digits)

abbrev IsTail : List ℕ → Type 0
IsTail = IsThen (IsMany is_ascii_digit) (IsMaybe IsExponent)

closed_decimal : Closed IsDecimal
closed_decimal = closed_then (IsMaybe (IsOne (is_of (codes "-+")))) (IsThen IsDigits (IsThen (IsByte 46) IsTail)) closed_sign
    (closed_then IsDigits (IsThen (IsByte 46) IsTail) closed_digits
    (closed_behind 46 IsTail refl (closed_then (IsMany is_ascii_digit) (IsMaybe IsExponent) (closed_many is_ascii_digit refl) (closed_maybe IsExponent closed_exponent))))

abbrev IsHexTail : List ℕ → Type 0
IsHexTail = IsThen (IsMaybe (IsOne (is_of (codes "HKLMR")))) (IsRun is_ascii_hexdigit is_ascii_hexdigit)

closed_hex : Closed IsHex
closed_hex = closed_behind 48 (IsThen (IsByte 120) IsHexTail) refl (closed_behind 120 IsHexTail refl
    (closed_then (IsMaybe (IsOne (is_of (codes "HKLMR")))) (IsRun is_ascii_hexdigit is_ascii_hexdigit)
    (closed_maybe (IsOne (is_of (codes "HKLMR"))) (closed_one (is_of (codes "HKLMR")) refl)) (closed_run is_ascii_hexdigit is_ascii_hexdigit refl refl)))

closed : (k : Kind) → Closed (Is k)
closed Word = closed_run is_word_start is_word_byte refl refl
closed Label = closed_last (IsEither (IsRun is_name_byte is_name_byte) IsQuotedName) (λ b. b == 58) refl
closed Global = closed_behind 64 IsName refl closed_name
closed Local = closed_behind 37 IsName refl closed_name
closed Comdat = closed_behind 36 (IsEither (IsRun is_name_start is_name_byte) IsQuoted) refl (closed_either (IsRun is_name_start is_name_byte) IsQuoted (closed_run is_name_start is_name_byte refl refl) closed_quoted)
closed Meta = closed_behind 33 (IsEither (IsRun is_meta_start is_meta_byte) IsDigits) refl (closed_either (IsRun is_meta_start is_meta_byte) IsDigits (closed_run is_meta_start is_meta_byte refl refl) closed_digits)
closed MetaText = closed_behind 33 IsQuoted refl closed_quoted
closed Group = closed_behind 35 IsDigits refl closed_digits
closed SummaryNumber = closed_behind 94 IsDigits refl closed_digits
closed HashWord = closed_behind 35 IsWord refl (closed_run is_word_start is_word_byte refl refl)
closed Number = closed_then (IsMaybe (IsByte 45)) IsDigits (closed_maybe (IsByte 45) (closed_one (λ b. b == 45) refl)) closed_digits
closed Float = closed_either IsDecimal IsHex closed_decimal closed_hex
closed Quoted = closed_quoted
closed Bytes = closed_behind 99 IsQuoted refl closed_quoted
closed Mark = closed_one is_mark refl
closed Dots = closed_behind 46 (IsThen (IsByte 46) (IsByte 46)) refl (closed_last (IsByte 46) (λ b. b == 46) refl)

last_byte : (n : ℕ) (bytes : List ℕ) → n < length bytes → ends_line (take (suc n) bytes) ≡ false → list_any is_line_end (take 1 (drop n bytes)) ≡ false
last_byte n [] within e = absurd (omega arith)
last_byte zero (b ∷ bytes) within e = test (is_line_end b) (λ t. absurd (let h = rw t at e in cc)) (λ t. rw t refl)
last_byte (suc n) (b ∷ []) within e = absurd (omega arith)
last_byte (suc n) (b ∷ c ∷ bytes) within e = last_byte n (c ∷ bytes) (omega arith) e

-- tokens in order

record Spans (t : Token) : Type 0 where
  some : t.start < t.end

next_spans : (file : ℕ) (text : List ℕ) (at : ℕ) (t : Token) → IsNext file text at t → Spans t
next_spans file text at t next =
    let n = front_some t.kind (t.end - t.start) (drop t.start text) (begins_first (drop t.start text) t.kind (t.end - t.start) next.begins) in
    record { some = omega arith }

-- the last byte of a token is no end of a line
last_off : (file : ℕ) (text : List ℕ) (at : ℕ) (t : Token) → IsNext file text at t → breaks_line text (t.end - 1) t.end ≡ false
last_off file text at t next =
    let spans = next_spans file text at t next in
    let some = spans.some in
    let begins = next.begins in
    let within = begins.within in
    let n = t.end - t.start - 1 in
    let size : t.end - t.start ≡ suc n = omega arith in
    let P : ℕ → Type 0 = λ k. ends_line (take k (drop t.start text)) ≡ false in
    let ends = subst P size (closed t.kind (take (t.end - t.start) (drop t.start text)) begins.is) in
    let here = last_byte n (drop t.start text) (omega arith) ends in
    let one : t.end - (t.end - 1) ≡ 1 = omega arith in
    let place : drop n (drop t.start text) ≡ drop (t.end - 1) text = drop-drop n t.start text ∙ (let i : t.start + n ≡ t.end - 1 = omega arith in ap (λ k. drop k text) i) in
    rw (one, ← place) here

chain_end : (Last : ℕ → Type 0) (file : ℕ) (text : List ℕ) (at : ℕ) (before : List Token) (t : Token) (after : List Token) →
    TokensThen Last file text at (before ++ t ∷ after) → at ≤ t.end
chain_end Last file text at [] t after is =
    let next = is.0 in
    let low = next.behind in
    let spans = next_spans file text at t next in
    let some = spans.some in
    omega arith
chain_end Last file text at (other ∷ before) t after is =
    let rest = chain_end Last file text other.end before t after is.1 in
    let next = is.0 in
    let low = next.behind in
    let spans = next_spans file text at other next in
    let some = spans.some in
    omega arith

record Between (file : ℕ) (text : List ℕ) (last t : Token) : Type 0 where
  some : last.start < last.end
  order : last.end ≤ t.start
  off : breaks_line text (last.end - 1) last.end ≡ false

between : (Last : ℕ → Type 0) (file : ℕ) (text : List ℕ) (at : ℕ) (before : List Token) (last t : Token) (after : List Token) →
    TokensThen Last file text at (before ++ last ∷ t ∷ after) → Between file text last t
between Last file text at [] last t after is =
    let spans = next_spans file text at last is.0 in
    let behind = is.1 in
    let next = behind.0 in
    record { some = spans.some; order = next.behind; off = last_off file text at last is.0 }
between Last file text at (other ∷ before) last t after is = between Last file text other.end before last t after is.1

off_before : (text : List ℕ) (other : Token) (end : ℕ) (t : Token) → other.end ≤ end → (place_at 0 text end).line < (place_at 0 text t.start).line →
    IsOffLine text t other
off_before text other end t order less at low high same =
    let up = at_least 0 text at end (omega arith) in
    omega arith

-- behind the end of a line, all before is off the line
all_off : (Last : ℕ → Type 0) (file : ℕ) (text : List ℕ) (at : ℕ) (before : List Token) (last t : Token) (after : List Token) →
    TokensThen Last file text at (before ++ last ∷ after) → (place_at 0 text last.end).line < (place_at 0 text t.start).line →
    AllByRecursion (IsOffLine text t) (before ++ last ∷ [])
all_off Last file text at [] last t after is less = (off_before text last last.end t (omega arith) less, tt)
all_off Last file text at (other ∷ before) last t after is less =
    let behind = chain_end Last file text other.end before last after is.1 in
    (off_before text other last.end t behind less, all_off Last file text other.end before last t after is.1 less)

all_last : (P : Token → Type 0) (before : List Token) (last : Token) → AllByRecursion P (before ++ last ∷ []) → P last
all_last P [] last all = all.0
all_last P (other ∷ before) last all = all_last P before last all.1

pub lines_tell_first : LinesTellFirst
lines_tell_first file text before last t after is =
    let b = between _ file text 0 before last t after is in
    let some = b.some in
    let order = b.order in (
      λ first. test (breaks_line text last.end t.start) (λ e. e) (λ e. absurd (
          let off = all_last (IsOffLine text t) before last first in
          let one = same_line 0 text (last.end - 1) last.end (omega arith) b.off in
          let two = same_line 0 text last.end t.start order e in
          off (last.end - 1) (omega arith) (omega arith) (sym one ∙ sym two))),
      λ e. all_off _ file text 0 before last t (t ∷ after) is (later_line 0 text last.end t.start order e),
    )
