-- A text has one reading.
use Rattle.std.proofs.Common.{◌≡◌, ℕ, zero, suc, ◌+◌, ◌-◌, ◌<◌, ◌≤◌, Bool, true, false, not, ◌||◌, ◌==◌, nat_lt, inl, inr, Some, None, List, [], ◌∷◌, ◌++◌, take, drop, refl, ap, sym, ◌∙◌, subst, arith}
use Rattle.std.specs.Prelude.{IsSome, slice_range}
use Rattle.std.specs.List.{list_all}
use Rattle.std.proofs.lemmas.Bool.Decides.{nat_tests}
use Rattle.std.proofs.lemmas.List.{drop-drop, length-take-le, take-append-drop}
use Rattle.std.proofs.Math.Seq.{take-add}
use Rattle.std.proofs.lemmas.List.Folds.{drop_split}
use Rattle.ltt_base.specs.declared.refusal.Place.{Place}
use Rattle.ir_lex.specs.declared.token.Kind.{Kind}
use Rattle.ir_lex.specs.declared.token.Token.{Token}
use Rattle.ir_lex.specs.Letters.{is_of, is_blank, is_line_end}
use Rattle.ir_lex.specs.Kinds.{Begins, NoneBegins}
use Rattle.ir_lex.specs.Places.{place_at}
use Rattle.ir_lex.specs.Choice.{first_of}
use Rattle.ir_lex.specs.Texts.{open_behind, IsGap, IsLastGap, begins_other, IsNext, IsStuck, TokensThen, TokensFrom}
use Rattle.ir_lex.specs.Laws.{ReadingsAgree, ReadingsEnd, StucksAgree}
use Rattle.ir_lex.proofs.CaseSplits.{test}
use Rattle.ir_lex.proofs.LengthLaws.{First}
use Rattle.ir_lex.proofs.KindLaws.{of_each}
use Rattle.ir_lex.proofs.ChoiceLaws.{begins, starts, allowed, allows, row_same}

-- a byte that is neither of a blank nor of a comment ends what they are

other_ends : (b : ℕ) (bytes : List ℕ) → begins_other (b ∷ bytes) ≡ true → open_behind false (b ∷ bytes) ≡ None
other_ends b bytes other =
    test (b == 59)
    (λ t. absurd (let h = rw t at other in test (is_blank b) (λ s. let u = rw s at h in cc) (λ s. let u = rw s at h in cc)))
    (λ t. test (is_blank b) (λ s. absurd (let h = rw s at other in cc)) (λ s. rw (t, s) refl))

ends_behind : (inside : Bool) (gap bytes : List ℕ) → open_behind inside gap ≡ Some false → open_behind false bytes ≡ None →
    open_behind inside (gap ++ bytes) ≡ None
ends_behind true [] bytes e d = absurd cc
ends_behind false [] bytes e d = d
ends_behind true (c ∷ gap) bytes e d = ends_behind (not (is_line_end c)) gap bytes e d
ends_behind false (c ∷ gap) bytes e d =
    test (c == 59)
    (λ t. let u = rw t at e in rw t (ends_behind true gap bytes u d))
    (λ t. let u = rw t at e in rw t (test (is_blank c)
    (λ s. let w = rw s at u in rw s (ends_behind false gap bytes w d))
    (λ s. rw s refl)))

-- from an offset on, blanks and comments stand before another, at which neither begins
record Opens (text : List ℕ) (at offset : ℕ) : Type 0 where
  behind : at ≤ offset
  gap : IsGap (slice_range text at offset)
  other : begins_other (drop offset text) ≡ true

range_split : (text : List ℕ) (at middle end : ℕ) → at ≤ middle → middle ≤ end →
    slice_range text at end ≡ slice_range text at middle ++ slice_range text middle end
range_split text at middle end low high =
    let e : end - at ≡ (middle - at) + (end - middle) = omega arith in
    let d : at + (middle - at) ≡ middle = omega arith in
    let same : drop (middle - at) (drop at text) ≡ drop middle text = drop-drop (middle - at) at text ∙ ap (λ k. drop k text) d in
    rw e (take-add (middle - at) (end - middle) (drop at text) ∙ ap (λ rest. take (middle - at) (drop at text) ++ take (end - middle) rest) same)

take_other : (n : ℕ) (bytes : List ℕ) → 0 < n → begins_other bytes ≡ true → open_behind false (take n bytes) ≡ None
take_other zero bytes some other = absurd (omega arith)
take_other (suc n) [] some other = absurd cc
take_other (suc n) (b ∷ bytes) some other = other_ends b (take n bytes) other

not_before : (text : List ℕ) (at offset end : ℕ) → Opens text at offset → IsGap (slice_range text at end) → offset < end → ⊥
not_before text at offset end o gap less =
    let low = o.behind in
    let split = range_split text at offset end low (omega arith) in
    let stop = take_other (end - offset) (drop offset text) (omega arith) o.other in
    let none = ends_behind false (slice_range text at offset) (slice_range text offset end) o.gap stop in
    let here : IsGap (slice_range text at offset ++ slice_range text offset end) = rw split at gap in
    cc

opens_once : (text : List ℕ) (at offset other : ℕ) → Opens text at offset → Opens text at other → offset ≡ other
opens_once text at offset other o u =
    test (nat_lt offset other)
    (λ t. absurd (not_before text at offset other o u.gap (grind (arith, nat_tests))))
    (λ t. test (nat_lt other offset)
    (λ s. absurd (not_before text at other offset u o.gap (grind (arith, nat_tests))))
    (λ s. grind (arith, nat_tests)))

all_other : (bytes : List ℕ) → begins_other bytes ≡ true → open_behind false bytes ≡ None
all_other [] other = absurd cc
all_other (b ∷ bytes) other = other_ends b bytes other

not_last : (text : List ℕ) (at offset : ℕ) → Opens text at offset → IsLastGap (drop at text) → ⊥
not_last text at offset o last =
    let split = drop_split text at offset o.behind in
    let none = ends_behind false (slice_range text at offset) (drop offset text) o.gap (all_other (drop offset text) o.other) in
    let here : IsSome (open_behind false (slice_range text at offset ++ drop offset text)) = rw split at last in
    let nothing : false ≡ true = rw none at here in
    cc

-- a token begins with a byte of its own

clash : (v : Bool) → not v ≡ true → v ≡ true → ⊥
clash true h a = cc
clash false h a = cc

refused : (k : Kind) → list_all (λ c. not (allows k c)) (32 ∷ 9 ∷ 13 ∷ 10 ∷ 59 ∷ []) ≡ true
unfolding first_of
refused k = refl

blank_or_comment : (b : ℕ) → (is_blank b || b == 59) ≡ true → is_of (32 ∷ 9 ∷ 13 ∷ 10 ∷ 59 ∷ []) b ≡ true
blank_or_comment b t = grind (arith, nat_tests)

solid : (k : Kind) (b : ℕ) (bytes : List ℕ) → begins k b ≡ true → begins_other (b ∷ bytes) ≡ true
solid k b bytes is =
    test (is_blank b || b == 59)
    (λ t. absurd (clash (allows k b) (of_each (32 ∷ 9 ∷ 13 ∷ 10 ∷ 59 ∷ []) (λ c. not (allows k c)) (refused k) b (blank_or_comment b t)) (allowed k b is)))
    (λ t. rw t refl)

front_other : (k : Kind) (n : ℕ) (bytes : List ℕ) → First (begins k) (take n bytes) → begins_other bytes ≡ true
front_other k zero bytes is = absurd is
front_other k (suc n) [] is = absurd is
front_other k (suc n) (b ∷ bytes) is = solid k b bytes is

pub front_some : (k : Kind) (n : ℕ) (bytes : List ℕ) → First (begins k) (take n bytes) → 0 < n
front_some k zero bytes is = absurd is
front_some k (suc n) bytes is = omega arith

pub begins_first : (bytes : List ℕ) (k : Kind) (n : ℕ) → Begins bytes k n → First (begins k) (take n bytes)
begins_first bytes k n b = starts k (take n bytes) b.is

next_opens : (file : ℕ) (text : List ℕ) (at : ℕ) (t : Token) → IsNext file text at t → Opens text at t.start
next_opens file text at t next = record {
  behind = next.behind;
  gap = next.gap;
  other = front_other t.kind (t.end - t.start) (drop t.start text) (begins_first (drop t.start text) t.kind (t.end - t.start) next.begins);
}

stuck_opens : (file : ℕ) (text : List ℕ) (at : ℕ) (place : Place) → (stuck : IsStuck file text at place) → Opens text at stuck.offset
stuck_opens file text at place stuck = record { behind = stuck.behind; gap = stuck.gap; other = stuck.other }

-- the token that begins is one

record SameCut (k j : Kind) (n m : ℕ) : Type 0 where
  kind : k ≡ j
  len : n ≡ m

begins_once : (bytes : List ℕ) (k j : Kind) (n m : ℕ) → Begins bytes k n → Begins bytes j m → SameCut k j n m
begins_once bytes k j n m b c =
    let one = b.longest j (take m bytes) (drop m bytes) c.is (sym (take-append-drop m bytes)) in
    let two = c.longest k (take n bytes) (drop n bytes) b.is (sym (take-append-drop n bytes)) in
    let size = length-take-le m bytes c.within in
    let other = length-take-le n bytes b.within in
    elim one [
      | inl less ↦ absurd (elim two [ inl more ↦ omega arith | inr same ↦ let s = same.0 in omega arith ])
      | inr same ↦ elim two [
        | inl more ↦ absurd (let s = same.0 in omega arith)
        | inr back ↦ let s = same.0 in let r = same.1 in let q = back.1 in
            record { kind = row_same k j (grind (arith, nat_tests)); len = omega arith }
      ]
    ]

token : Kind → ℕ → ℕ → Place → Token
token k start end place = record { kind = k; start = start; end = end; place = place }

token_same : (k j : Kind) (s r e f : ℕ) (p q : Place) → k ≡ j → s ≡ r → e ≡ f → p ≡ q → token k s e p ≡ token j r f q
token_same k j s r e f p q a b c d = rw (a, b, c, d) refl

next_once : (file : ℕ) (text : List ℕ) (at : ℕ) (t u : Token) → IsNext file text at t → IsNext file text at u → t ≡ u
unfolding token
next_once file text at t u next other =
    let start = opens_once text at t.start u.start (next_opens file text at t next) (next_opens file text at u other) in
    let P : ℕ → Type 0 = λ s. Begins (drop s text) u.kind (u.end - u.start) in
    let same = begins_once (drop t.start text) t.kind u.kind (t.end - t.start) (u.end - u.start) next.begins (subst P (sym start) other.begins) in
    let some = front_some t.kind (t.end - t.start) (drop t.start text) (begins_first (drop t.start text) t.kind (t.end - t.start) next.begins) in
    let len = same.len in
    let end : t.end ≡ u.end = omega arith in
    token_same t.kind u.kind t.start u.start t.end u.end t.place u.place same.kind start end
    (next.place ∙ ap (λ s. place_at file text s) start ∙ sym other.place)

-- a token stands next, or the text is stuck, or it ends

next_or_last : (file : ℕ) (text : List ℕ) (at : ℕ) (t : Token) → IsNext file text at t → IsLastGap (drop at text) → ⊥
next_or_last file text at t next last = not_last text at t.start (next_opens file text at t next) last

stuck_or_last : (file : ℕ) (text : List ℕ) (at : ℕ) (place : Place) → IsStuck file text at place → IsLastGap (drop at text) → ⊥
stuck_or_last file text at place stuck last = not_last text at stuck.offset (stuck_opens file text at place stuck) last

next_or_stuck : (file : ℕ) (text : List ℕ) (at : ℕ) (t : Token) (place : Place) → IsNext file text at t → IsStuck file text at place → ⊥
next_or_stuck file text at t place next stuck =
    let start = opens_once text at stuck.offset t.start (stuck_opens file text at place stuck) (next_opens file text at t next) in
    let P : ℕ → Type 0 = λ s. NoneBegins (drop s text) in
    let none = subst P start stuck.none in
    let n = t.end - t.start in
    let begins = next.begins in
    none t.kind (take n (drop t.start text)) (drop n (drop t.start text)) begins.is (sym (take-append-drop n (drop t.start text)))

agree_from : (file : ℕ) (text : List ℕ) (at : ℕ) (tokens others : List Token) → TokensFrom file text at tokens →
    TokensFrom file text at others → tokens ≡ others
agree_from file text at [] [] a b = refl
agree_from file text at [] (u ∷ others) a b = absurd (next_or_last file text at u b.0 a)
agree_from file text at (t ∷ tokens) [] a b = absurd (next_or_last file text at t a.0 b)
agree_from file text at (t ∷ tokens) (u ∷ others) a b =
    let same = next_once file text at t u a.0 b.0 in
    let P : Token → Type 0 = λ x. TokensFrom file text x.end others in
    let rest = agree_from file text t.end tokens others a.1 (subst P (sym same) b.1) in
    cc

pub readings_agree : ReadingsAgree
readings_agree file text tokens others a b = agree_from file text 0 tokens others a b

end_from : (file : ℕ) (text : List ℕ) (place : Place) (at : ℕ) (tokens some : List Token) → TokensFrom file text at tokens →
    TokensThen (λ k. IsStuck file text k place) file text at some → ⊥
end_from file text place at [] [] a b = stuck_or_last file text at place b a
end_from file text place at [] (u ∷ some) a b = next_or_last file text at u b.0 a
end_from file text place at (t ∷ tokens) [] a b = next_or_stuck file text at t place a.0 b
end_from file text place at (t ∷ tokens) (u ∷ some) a b =
    let same = next_once file text at t u a.0 b.0 in
    let P : Token → Type 0 = λ x. TokensThen (λ k. IsStuck file text k place) file text x.end some in
    end_from file text place t.end tokens some a.1 (subst P (sym same) b.1)

pub readings_end : ReadingsEnd
readings_end file text tokens some place a b = end_from file text place 0 tokens some a b

stuck_once : (file : ℕ) (text : List ℕ) (at : ℕ) (place other : Place) → IsStuck file text at place → IsStuck file text at other → place ≡ other
stuck_once file text at place other a b =
    let offset = opens_once text at a.offset b.offset (stuck_opens file text at place a) (stuck_opens file text at other b) in
    a.is ∙ ap (λ k. place_at file text k) offset ∙ sym b.is

stuck_from : (file : ℕ) (text : List ℕ) (place other : Place) (at : ℕ) (tokens others : List Token) →
    TokensThen (λ k. IsStuck file text k place) file text at tokens →
    TokensThen (λ k. IsStuck file text k other) file text at others → place ≡ other
stuck_from file text place other at [] [] a b = stuck_once file text at place other a b
stuck_from file text place other at [] (u ∷ others) a b = absurd (next_or_stuck file text at u place b.0 a)
stuck_from file text place other at (t ∷ tokens) [] a b = absurd (next_or_stuck file text at t other a.0 b)
stuck_from file text place other at (t ∷ tokens) (u ∷ others) a b =
    let same = next_once file text at t u a.0 b.0 in
    let P : Token → Type 0 = λ x. TokensThen (λ k. IsStuck file text k other) file text x.end others in
    stuck_from file text place other t.end tokens others a.1 (subst P (sym same) b.1)

pub stucks_agree : StucksAgree
stucks_agree file text tokens others place other a b = stuck_from file text place other 0 tokens others a b
