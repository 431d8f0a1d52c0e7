-- A token before what may follow it is the token that begins there.
use Rattle.std.proofs.Common.{◌≡◌, ℕ, ◌<◌, ◌≤◌, Bool, true, false, not, ◌==◌, ◌||◌, nat_le, nat_lt, ◌⊎◌, inl, inr, List, [], ◌∷◌, ◌++◌, length, length-append, take, codes, refl, ap, sym, subst, ◌∙◌, append-nil, append_assoc, arith}
use Rattle.std.specs.Prelude.{⊤}
use Rattle.std.specs.List.{list_all}
use Rattle.std.specs.Char.{is_ascii_digit}
use Rattle.std.proofs.lemmas.Bool.Decides.{nat_tests}
use Rattle.std.proofs.Math.Seq.{take-append_seam}
use Rattle.ir_lex.specs.declared.token.Kind.{Kind}
use Rattle.ir_lex.specs.declared.token.Kind.TheVariants.{Word, Label, Global, Local, Number, Bytes, Mark}
use Rattle.ir_lex.specs.Letters.{is_of, is_word_start, is_name_byte, is_mark}
use Rattle.ir_lex.specs.Languages.{IsByte, IsMany, IsThen, IsEither, IsRun}
use Rattle.ir_lex.specs.Kinds.{IsQuoted, IsQuotedName, IsName, Is, row, Begins}
use Rattle.ir_lex.specs.Choice.{first_of, candidates}
use Rattle.ir_lex.proofs.CaseSplits.{test}
use Rattle.ir_lex.proofs.LengthLaws.{Starts}
use Rattle.ir_lex.proofs.KindLaws.{of_each, first_run, first_quoted}
use Rattle.ir_lex.proofs.ChoiceLaws.{begins, starts, allowed, member, row_same}
use Rattle.printed_tokens.specs.Atoms.{is_loose, IsToken}
use Rattle.printed_tokens.proofs.ShapeLemmas.{inner, bare_word, bare_number, shaped, shaped_label}
use Rattle.printed_tokens.proofs.LongestLemmas.{Parted, colon_ends, all_head, byte_front, behind_byte, one_length, label_is, label_with, label_length, label_most, other_most, loose_most}

-- what holds of the rows of all kinds that can begin with a byte holds of the row of one that does
of_rows : (p : ℕ → Bool) (j : Kind) (ks : List Kind) → list_all (λ i. p (row i)) ks ≡ true → member j ks ≡ true → p (row j) ≡ true
of_rows p j [] all is = absurd cc
of_rows p j (k ∷ ks) all is =
    test (p (row k))
    (λ u. test (row k == row j)
    (λ t. let e : row j ≡ row k = grind (arith, nat_tests) in rw e u)
    (λ t. let rest = rw t at is in let more = rw u at all in of_rows p j ks more rest))
    (λ u. absurd (let h = rw u at all in cc))

abbrev Told : (ℕ → Bool) → ℕ → Type 0
Told p b = list_all (λ i. p (row i)) (candidates (first_of b)) ≡ true

told : (p : ℕ → Bool) (j : Kind) (b : ℕ) (front back rest : List ℕ) → Told p b → Is j front → front ++ back ≡ b ∷ rest → p (row j) ≡ true
told p j b [] back rest all is e = absurd (starts j [] is)
told p j b (c ∷ front) back rest all is e =
    let same : c ≡ b = cc in
    let P : ℕ → Type 0 = λ d. begins j d ≡ true in
    of_rows p j (candidates (first_of b)) all (allowed j b (subst P same (starts j (c ∷ front) is)))

shorter_or_same : (n m : ℕ) → n ≤ m → (n < m) ⊎ (n ≡ m)
shorter_or_same n m within = test (nat_lt n m) (λ t. inl (grind (arith, nat_tests))) (λ t. inr (grind (arith, nat_tests)))

same_texts : (bytes rest front back : List ℕ) → length front ≡ length bytes → bytes ++ rest ≡ front ++ back → front ≡ bytes
same_texts bytes rest front back len e =
    let a = take-append_seam bytes rest in
    let b = take-append_seam front back in
    let c : take (length front) (bytes ++ rest) ≡ bytes = rw len a in
    sym b ∙ ap (λ text. take (length front) text) (sym e) ∙ c

-- what begins with a byte is not empty
first_some : (P : List ℕ → Type 0) (p : ℕ → Bool) → Starts P p → (bytes : List ℕ) → P bytes → 0 < length bytes
first_some P p starts [] is = absurd (starts [] is)
first_some P p starts (b ∷ bytes) is = omega arith

-- of two kinds of the same bytes the printed one has the first row

abbrev Ties : Kind → Type 0
Ties k = (bytes : List ℕ) → Is k bytes → (j : Kind) → Is j bytes → row k ≤ row j

at_least : (n m : ℕ) → nat_le n m ≡ true → n ≤ m
at_least n m t = grind (arith, nat_tests)

sign_ties : (k : Kind) (c : ℕ) (Q : List ℕ → Type 0) → Told (nat_le (row k)) c → (bytes : List ℕ) → IsThen (IsByte c) Q bytes →
    (j : Kind) → Is j bytes → row k ≤ row j
sign_ties k c Q all bytes is j other =
    at_least (row k) (row j) (told (nat_le (row k)) j c bytes [] is.back all other (append-nil bytes ∙ behind_byte c Q bytes is))

-- the last byte of a text
abbrev last_byte : List ℕ → ℕ
last_byte [] = 0
last_byte (b ∷ []) = b
last_byte (b ∷ c ∷ bytes) = last_byte (c ∷ bytes)

last_behind : (front : List ℕ) (b : ℕ) → last_byte (front ++ b ∷ []) ≡ b
last_behind [] b = refl
last_behind (c ∷ []) b = refl
last_behind (c ∷ d ∷ front) b = last_behind (d ∷ front) b

record EndsWith (b : ℕ) (bytes : List ℕ) : Type 0 where
  front : List ℕ
  is : bytes ≡ front ++ b ∷ []

then_ends : (b : ℕ) (P Q : List ℕ → Type 0) (bytes : List ℕ) → (is : IsThen P Q bytes) → EndsWith b is.back → EndsWith b bytes
then_ends b P Q bytes is ends = record {
  front = is.front ++ ends.front;
  is = is.joined ∙ ap (λ back. is.front ++ back) ends.is ∙ sym (append_assoc is.front ends.front (b ∷ []));
}

byte_ends : (b : ℕ) (bytes : List ℕ) → IsByte b bytes → EndsWith b bytes
byte_ends b bytes is = record { front = []; is = byte_front b bytes is }

label_ends : (bytes : List ℕ) → Is Label bytes → EndsWith 58 bytes
label_ends bytes is = record { front = is.front; is = label_is bytes is }

bytes_end : (bytes : List ℕ) → Is Bytes bytes → EndsWith 34 bytes
bytes_end bytes is =
    let text = is.second in
    let more = text.second in
    then_ends 34 (IsByte 99) IsQuoted bytes is
    (then_ends 34 (IsByte 34) (IsThen (IsMany (λ b. not (b == 34))) (IsByte 34)) is.back text
    (then_ends 34 (IsMany (λ b. not (b == 34))) (IsByte 34) text.back more (byte_ends 34 more.back more.second)))

ends_same : (b c : ℕ) (bytes : List ℕ) → EndsWith b bytes → EndsWith c bytes → b ≡ c
ends_same b c bytes e d =
    sym (last_behind e.front b) ∙ ap last_byte (sym e.is ∙ d.is) ∙ last_behind d.front c

all_last : (p : ℕ → Bool) (front : List ℕ) (b : ℕ) → list_all p (front ++ b ∷ []) ≡ true → p b ≡ true
all_last p [] b all = all_head p b [] all
all_last p (c ∷ front) b all =
    test (p c) (λ t. let h = rw t at all in all_last p front b h) (λ t. absurd (let h = rw t at all in cc))

bare_last : (b : ℕ) (bytes : List ℕ) → list_all inner bytes ≡ true → EndsWith b bytes → inner b ≡ true
bare_last b bytes all ends = all_last inner ends.front b (let same = ends.is in rw same at all)

-- a text of bytes is neither a word nor a label, which have the rows before it
word_or_label : (bytes : List ℕ) → Is Bytes bytes → (j : Kind) → Is j bytes → nat_le (row j) 1 ≡ true → ⊥
word_or_label bytes is j other low =
    test (row j == 0)
    (λ t. let P : Kind → Type 0 = λ k. Is k bytes in
    let word = subst P (row_same j Word t) other in
    let h = bare_last 34 bytes (bare_word bytes word) (bytes_end bytes is) in cc)
    (λ t. test (row j == 1)
    (λ u. let P : Kind → Type 0 = λ k. Is k bytes in
    let label = subst P (row_same j Label u) other in
    let h = ends_same 34 58 bytes (bytes_end bytes is) (label_ends bytes label) in omega arith)
    (λ u. grind (arith, nat_tests)))

bytes_ties : Ties Bytes
unfolding first_of
bytes_ties bytes is j other =
    let split = append-nil bytes ∙ behind_byte 99 IsQuoted bytes is in
    let h = told (λ n. nat_le 13 n || nat_le n 1) j 99 bytes [] is.back refl other split in
    test (nat_le 13 (row j))
    (λ t. at_least 13 (row j) t)
    (λ t. let low = rw t at h in absurd (word_or_label bytes is j other low))

number_first : (b : ℕ) → begins Number b ≡ true → Told (λ n. nat_le 10 n || n == 1) b
unfolding first_of
number_first b is =
    test (b == 45)
    (λ t. let e : b ≡ 45 = grind (arith, nat_tests) in rw e refl)
    (λ t. let digit : is_ascii_digit b ≡ true = rw t at is in
    test (is_word_start b) (λ u. absurd (grind (arith, nat_tests))) (λ u. rw (u, digit) refl))

number_ties : Ties Number
number_ties [] is j other = absurd (starts Number [] is)
number_ties (b ∷ bytes) is j other =
    let all = number_first b (starts Number (b ∷ bytes) is) in
    let h = told (λ n. nat_le 10 n || n == 1) j b (b ∷ bytes) [] bytes all other (append-nil (b ∷ bytes)) in
    test (nat_le 10 (row j))
    (λ t. at_least 10 (row j) t)
    (λ t. let low = rw t at h in
    let P : Kind → Type 0 = λ k. Is k (b ∷ bytes) in
    let label = subst P (row_same j Label low) other in
    absurd (let u = bare_last 58 (b ∷ bytes) (bare_number (b ∷ bytes) is) (label_ends (b ∷ bytes) label) in cc))

word_ties : Ties Word
word_ties bytes is j other = omega arith

global_ties : Ties Global
unfolding first_of
global_ties bytes is j other = sign_ties Global 64 IsName refl bytes is j other

local_ties : Ties Local
unfolding first_of
local_ties bytes is j other = sign_ties Local 37 IsName refl bytes is j other

-- the token that begins, from what no token is longer than

begins_at : (k : Kind) (bytes rest : List ℕ) → Is k bytes →
    ((j : Kind) (front back : List ℕ) → Is j front → bytes ++ rest ≡ front ++ back →
    (length front < length bytes) ⊎ ((length front ≡ length bytes) × (row k ≤ row j))) →
    Begins (bytes ++ rest) k (length bytes)
begins_at k bytes rest is longest = record {
  within = let e = length-append bytes rest in omega arith;
  is = let e = take-append_seam bytes rest in rw e is;
  longest = longest;
}

loose_begins : (k : Kind) → (row k == 1) ≡ false → (row k == 14) ≡ false → Ties k → (bytes rest : List ℕ) → Is k bytes → Parted rest →
    Begins (bytes ++ rest) k (length bytes)
loose_begins k no_label no_mark ties bytes rest is parted =
    begins_at k bytes rest is (λ j front back other e.
    let some = first_some (Is k) (begins k) (starts k) bytes is in
    let most = loose_most bytes rest (shaped k no_label no_mark bytes is) some parted j front back other e in
    elim (shorter_or_same (length front) (length bytes) most) [
      | inl less ↦ inl less
      | inr same ↦
          let P : List ℕ → Type 0 = λ text. Is j text in
          inr (same, ties bytes is j (subst P (same_texts bytes rest front back same e) other))
    ])

-- a label's name is not empty
name_some : (bytes : List ℕ) → IsEither (IsRun is_name_byte is_name_byte) IsQuotedName bytes → 0 < length bytes
name_some bytes (inl is) = first_some (IsRun is_name_byte is_name_byte) is_name_byte (first_run is_name_byte is_name_byte) bytes is
name_some bytes (inr is) = first_some IsQuoted (λ b. b == 34) first_quoted bytes is.0

label_begins : (bytes rest : List ℕ) → Is Label bytes → Begins (bytes ++ rest) Label (length bytes)
label_begins bytes rest is =
    begins_at Label bytes rest is (λ j front back other e.
    let shape = shaped_label is.front is.first in
    let text : is.front ++ 58 ∷ rest ≡ front ++ back = sym (label_with bytes rest is) ∙ e in
    let size = label_length bytes is in
    test (row j == 1)
    (λ t. let P : Kind → Type 0 = λ k. Is k front in
    let label = subst P (row_same j Label t) other in
    let most = label_most is.front (58 ∷ rest) shape (colon_ends rest) front back label text in
    let len = label_length front label in
    elim (shorter_or_same (length front) (length bytes) (omega arith)) [
      | inl less ↦ inl less
      | inr same ↦ inr (same, grind (arith, nat_tests))
    ])
    (λ t. let most = other_most is.front (58 ∷ rest) shape (name_some is.front is.first) (colon_ends rest) j t front back other text in
    inl (omega arith)))

-- a mark of printed modules begins nothing but a mark
plain_first : (b : ℕ) → is_of (codes "=,(){}[]<>*") b ≡ true → Told (λ n. n == 14) b
unfolding first_of
plain_first b is = of_each (codes "=,(){}[]<>*") (λ c. list_all (λ i. row i == 14) (candidates (first_of c))) refl b is

mark_begins : (bytes rest : List ℕ) → Is Mark bytes → list_all (is_of (codes "=,(){}[]<>*")) bytes ≡ true →
    Begins (bytes ++ rest) Mark (length bytes)
mark_begins (b ∷ []) rest is plain =
    begins_at Mark (b ∷ []) rest is (λ j front back other e.
    let first = plain_first b (all_head (is_of (codes "=,(){}[]<>*")) b [] plain) in
    let h = told (λ n. n == 14) j b front back rest first other (sym e) in
    let P : Kind → Type 0 = λ k. Is k front in
    let one = one_length is_mark front (subst P (row_same j Mark h) other) in
    inr (omega arith, grind (arith, nat_tests)))
mark_begins _ rest is plain = absurd is

-- a text before which any a_token that is loose ends
abbrev pub Lets : Bool → List ℕ → Type 0
Lets true rest = Parted rest
Lets false rest = ⊤

pub token_begins : (k : Kind) (bytes rest : List ℕ) → IsToken k bytes → Lets (is_loose k) rest →
    Begins (bytes ++ rest) k (length bytes)
token_begins Mark bytes rest is lets = mark_begins bytes rest is.is is.plain
token_begins Label bytes rest is lets = label_begins bytes rest is.is
token_begins Word bytes rest is lets = loose_begins Word refl refl word_ties bytes rest is.is lets
token_begins Global bytes rest is lets = loose_begins Global refl refl global_ties bytes rest is.is lets
token_begins Local bytes rest is lets = loose_begins Local refl refl local_ties bytes rest is.is lets
token_begins Number bytes rest is lets = loose_begins Number refl refl number_ties bytes rest is.is lets
token_begins Bytes bytes rest is lets = loose_begins Bytes refl refl bytes_ties bytes rest is.is lets
token_begins _ bytes rest is lets = absurd (let h = is.printed in cc)
