-- Of two sorts of texts the longer is chosen, and the first where they are as long.
use Rattle.std.proofs.Common.{◌≡◌, ℕ, zero, suc, ◌+◌, ◌<◌, ◌≤◌, Bool, true, false, cond, nat_lt, ◌⊎◌, inl, inr, List, [], ◌∷◌, ◌++◌, length, refl, sym, ◌∙◌, ap, subst, arith, length-append}
use Rattle.unit_grammar.specs.Pieces.{Piece}
use Rattle.unit_grammar.specs.Signs.{Start, begins_any}
use Rattle.unit_grammar.specs.Grammar.{Text}
use Rattle.unit_grammar.specs.Readers.{Read, found, absent, deep, Reader}
use Rattle.unit_grammar.specs.Exact.{IsFront, Exact}
use Rattle.unit_grammar.specs.Longest.{IsLongest, NoneBegins}
use Rattle.unit_grammar.proofs.LongestLaws.{is_longest, none_begins}
use Rattle.ir_text.specs.Choices.{Else, longer, prefer, flat, IsChosen}

-- a reader behind which another finds nothing
pub prefer_none : {A : Type 0} (x : Read A) → prefer x absent ≡ x
prefer_none (found a rest) = refl
prefer_none absent = refl
prefer_none deep = refl

-- fronts of one list with rests of one length are one front
same_length : (f g r s : List Piece) → f ++ r ≡ g ++ s → length r ≡ length s → f ≡ g
same_length [] [] r s e l = refl
same_length [] (y ∷ g) r s e l =
    let lengths = ap length e in
    absurd (omega (arith, simp length-append at lengths))
same_length (x ∷ f) [] r s e l =
    let lengths = ap length e in
    absurd (omega (arith, simp length-append at lengths))
same_length (x ∷ f) (y ∷ g) r s e l =
    let heads : x ≡ y = cc in
    let tails : f ++ r ≡ g ++ s = cc in
    let same = same_length f g r s tails l in
    rw (heads, same) refl

at_most : {A : Type 0} {Q : Text A} {P : Text A} (ts : List Piece) (a b : A) (rest after : List Piece) → IsLongest P Q ts a rest → IsFront Q ts b after →
    length rest ≤ length after
at_most ts a b rest after h f = elim (h.longest b after f) [
  | inl less ↦ omega (arith, less)
  | inr same ↦ let lengths = ap length same.1 in omega (arith, lengths)
]

-- the first stands, where no text of the other is longer
first_stands : {A : Type 0} (P Q R : Text A) (ts : List Piece) (a : A) (rest : List Piece) → ((us : List Piece) (b : A) → P us b → Q us b) →
    IsLongest P Q ts a rest → ((b : A) (after : List Piece) → IsFront R ts b after → length rest ≤ length after) →
    IsLongest (Else P Q R) (Else Q Q R) ts a rest
first_stands {A} P Q R ts a rest within h others = record {
  stands = record { front = h.stands.front; is = inl h.stands.is; splits = h.stands.splits };
  longest = go;
}
  where
    behind : (b : A) (after : List Piece) (front : List Piece) → ts ≡ front ++ after → R front b → ((c : A) → Q front c → ⊥) →
        length rest ≤ length after → (length rest < length after) ⊎ ((a ≡ b) × (rest ≡ after))
    behind b after front splits is none least = by_test (nat_lt (length rest) (length after)) refl
      where
        by_test : (v : Bool) → nat_lt (length rest) (length after) ≡ v → (length rest < length after) ⊎ ((a ≡ b) × (rest ≡ after))
        by_test true e = inl (grind (arith, e))
        by_test false e =
            let same : length rest ≡ length after = grind (arith, e, least) in
            let fronts = same_length h.stands.front front rest after (sym h.stands.splits ∙ splits) same in
            absurd (none a (subst (λ (z : List Piece). Q z a) fronts (within h.stands.front a h.stands.is)))

    go : (b : A) (after : List Piece) → IsFront (Else Q Q R) ts b after → (length rest < length after) ⊎ ((a ≡ b) × (rest ≡ after))
    go b after f = elim f.is [
      | inl is ↦ h.longest b after (record { front = f.front; is = is; splits = f.splits })
      | inr is ↦ behind b after f.front f.splits is.0 is.1 (others b after (record { front = f.front; is = is.0; splits = f.splits }))
    ]

-- the other stands, where it is longer than each of the first
other_stands : {A : Type 0} (P Q R : Text A) (ts : List Piece) (a : A) (rest : List Piece) →
    IsLongest R R ts a rest → ((b : A) (after : List Piece) → IsFront Q ts b after → length rest < length after) →
    IsLongest (Else P Q R) (Else Q Q R) ts a rest
other_stands {A} P Q R ts a rest h firsts = record {
  stands = record {
    front = h.stands.front;
    is = inr (h.stands.is, λ b is. let less = firsts b rest (record { front = h.stands.front; is = is; splits = h.stands.splits }) in omega (arith, less));
    splits = h.stands.splits;
  };
  longest = λ b after f. elim f.is [
    | inl is ↦ inl (firsts b after (record { front = f.front; is = is; splits = f.splits }))
    | inr is ↦ h.longest b after (record { front = f.front; is = is.0; splits = f.splits })
  ];
}

none_stands : {A : Type 0} (Q R : Text A) (ts : List Piece) → NoneBegins Q ts → NoneBegins R ts → NoneBegins (Else Q Q R) ts
none_stands Q R ts h g a rest f = elim f.is [
  | inl is ↦ h a rest (record { front = f.front; is = is; splits = f.splits })
  | inr is ↦ g a rest (record { front = f.front; is = is.0; splits = f.splits })
]

read_of : {A : Type 0} {x : Read A} {a b : A} {rest after : List Piece} → x ≡ found a rest → x ≡ found b after → (a ≡ b) × (rest ≡ after)
read_of e f = let both = sym e ∙ f in (cc, cc)

moved : {A : Type 0} {P Q : Text A} {ts : List Piece} {a b : A} {rest after : List Piece} → found a rest ≡ found b after → IsLongest P Q ts a rest → IsLongest P Q ts b after
moved {A} {P} {Q} {ts} {a} {b} {rest} {after} e h =
    let value : a ≡ b = cc in
    let behind : rest ≡ after = cc in
    subst (λ (z : List Piece). IsLongest P Q ts b z) behind (subst (λ (z : A). IsLongest P Q ts z rest) value h)

prefer_longest : {A : Type 0} (P Q R : Text A) (ts : List Piece) (x y : Read A) → ((us : List Piece) (b : A) → P us b → Q us b) →
    ((a : A) (rest : List Piece) → x ≡ found a rest → IsLongest P Q ts a rest) → (x ≡ absent → NoneBegins Q ts) →
    ((a : A) (rest : List Piece) → y ≡ found a rest → IsLongest R R ts a rest) → (y ≡ absent → NoneBegins R ts) →
    (a : A) (rest : List Piece) → prefer x (flat y) ≡ found a rest → (y ≡ deep → ⊥) → IsLongest (Else P Q R) (Else Q Q R) ts a rest
prefer_longest {A} P Q R ts (found b after) (found c last) within hx nx hy ny a rest e flat =
    by_test (nat_lt (length last) (length after)) refl
  where
    by_test : (v : Bool) → nat_lt (length last) (length after) ≡ v → IsLongest (Else P Q R) (Else Q Q R) ts a rest
    by_test true t =
        let is : found c last ≡ found a rest = rw t at e in
        moved is (other_stands P Q R ts c last (hy c last refl)
        (λ d end f. let least = at_most ts b d after end (hx b after refl) f in grind (arith, t, least)))
    by_test false t =
        let is : found b after ≡ found a rest = rw t at e in
        moved is (first_stands P Q R ts b after within (hx b after refl)
        (λ d end f. let least = at_most ts c d last end (hy c last refl) f in grind (arith, t, least)))
prefer_longest {A} P Q R ts (found b after) absent within hx nx hy ny a rest e flat =
    moved e (first_stands P Q R ts b after within (hx b after refl) (λ d end f. absurd (ny refl d end f)))
prefer_longest {A} P Q R ts (found b after) deep within hx nx hy ny a rest e flat = absurd (flat refl)
prefer_longest {A} P Q R ts absent (found c last) within hx nx hy ny a rest e flat =
    moved e (other_stands P Q R ts c last (hy c last refl) (λ d end f. absurd (nx refl d end f)))
prefer_longest {A} P Q R ts absent absent within hx nx hy ny a rest e flat = absurd cc
prefer_longest {A} P Q R ts absent deep within hx nx hy ny a rest e flat = absurd cc
prefer_longest {A} P Q R ts deep y within hx nx hy ny a rest e flat = absurd cc

prefer_absent : {A : Type 0} (x y : Read A) → prefer x (flat y) ≡ absent → (y ≡ deep → ⊥) → (x ≡ absent) × (y ≡ absent)
prefer_absent {A} (found a rest) (found b after) e flat = absurd (go (nat_lt (length after) (length rest)) e)
  where
    go : (v : Bool) → cond {A = Read A} v (found b after) (found a rest) ≡ absent → ⊥
    go true e = cc
    go false e = cc
prefer_absent (found a rest) absent e flat = absurd cc
prefer_absent (found a rest) deep e flat = absurd (flat refl)
prefer_absent absent (found b after) e flat = absurd cc
prefer_absent absent absent e flat = (refl, refl)
prefer_absent absent deep e flat = absurd (flat refl)
prefer_absent deep y e flat = absurd cc

prefer_deep : {A : Type 0} (x y : Read A) → prefer x (flat y) ≡ deep → x ≡ deep
prefer_deep {A} (found a rest) (found b after) e = absurd (go (nat_lt (length after) (length rest)) e)
  where
    go : (v : Bool) → cond {A = Read A} v (found b after) (found a rest) ≡ deep → ⊥
    go true e = cc
    go false e = cc
prefer_deep (found a rest) absent e = absurd cc
prefer_deep (found a rest) deep e = absurd cc
prefer_deep absent (found b after) e = absurd cc
prefer_deep absent absent e = absurd cc
prefer_deep absent deep e = absurd cc
prefer_deep deep y e = refl

pub prefer_chosen : {A : Type 0} {P Q R : Text A} {O : List Piece → Type 0} {p q : Reader A} → IsChosen P Q O p → IsChosen R R (λ _. ⊥) q →
    IsChosen (Else P Q R) (Else Q Q R) O (λ ts. prefer (p ts) (flat (q ts)))
prefer_chosen {A} {P} {Q} {R} {O} {p} {q} h g = record {
  some = λ a is. elim is [ inl is ↦ h.some a is | inr is ↦ g.some a is.0 ];
  within = λ ts a is. elim is [ inl is ↦ inl (h.within ts a is) | inr is ↦ inr is ];
  longest = λ ts a rest e. prefer_longest P Q R ts (p ts) (q ts) h.within (h.longest ts) (h.none ts) (g.longest ts) (g.none ts) a rest e (g.opened ts);
  none = λ ts e.
      let both = prefer_absent (p ts) (q ts) e (g.opened ts) in
      none_stands Q R ts (h.none ts both.0) (g.none ts both.1);
  opened = λ ts e. h.opened ts (prefer_deep (p ts) (q ts) e);
  deepens = λ ts o. rw (h.deepens ts o) refl;
}

pub nothing_begins : (S : List Start) → begins_any S [] ≡ true → ⊥
nothing_begins [] e = cc
nothing_begins (s ∷ S) e = nothing_begins S e

-- a reader of a part whose texts are told
pub exact_chosen : {A : Type 0} {P Q : Text A} {D : Type 0} {O : List Piece → Type 0} {p : Reader A} {S M : List Start} → Exact P Q D O p S M false →
    ((ts : List Piece) → O ts → p ts ≡ deep) → IsChosen P Q O p
exact_chosen {A} {P} {Q} {D} {O} {p} {S} {M} h deepens = record {
  some = λ a is. elim (h.starts [] a is) [ inl e ↦ absurd (cc e.1) | inr e ↦ nothing_begins S e ];
  within = h.within;
  longest = λ ts a rest e. is_longest h ts a rest e;
  none = λ ts e. none_begins h ts e;
  opened = h.opened;
  deepens = deepens;
}
