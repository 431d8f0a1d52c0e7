-- What tokens that look so say as texts of a part.
use Rattle.std.proofs.Common.{◌≡◌, true, inl, inr, List, [], ◌∷◌, ◌++◌, map, map-id, Some, None, refl, sym, ◌∙◌, ap, subst, append-nil, append_assoc, codes}
use Rattle.std.specs.List.{flat_map, AllByRecursion, AllZip}
use Rattle.unit_grammar.specs.Pieces.{Piece}
use Rattle.unit_grammar.specs.Signs.{Sign, mark}
use Rattle.unit_grammar.specs.Grammar.{Part, Text, nothing, token, enclosed, ◌▹◌, ◌⋆◌, says, ◌or◌, maybe, many, Is, sign, mapped, ◌◃◌, some_with, list_with}
use Rattle.type_grammar.specs.Levels.{IsAt, levels}
use Rattle.type_grammar.specs.Types.{IsPart}
use Rattle.printed_tokens.specs.Atoms.{Atom}
use Rattle.printed_tokens.specs.Looks.{Seen, seen, seen_of}
use Rattle.printed_tokens.proofs.AtomLemmas.{seen_of_append}
use Rattle.printed_units.specs.Printing.{behind_comma, listed, braced}
use Rattle.printed_units.proofs.SeenLemmas.{lets, let_by, starts_with, none_seen, seen_split, closes, closes_by}

-- Tokens that look so are a text of the part, and P holds of what it says, where E are the texts of the named parts.
pub record ShowsIn {N : Type 0} {V : N → Type 0} (E : (x : N) → Text (V x)) {A : Type 0} (p : Part N V A) (looks : List Seen) (P : A → Type 0)
    : Type 0 where
  pub each : (ts : List Piece) → seen ts ≡ looks → (a : A) × Is E p ts a × P a

abbrev pub Shows : {A : Type 0} → IsPart A → List Seen → (A → Type 0) → Type 0
Shows p looks P = ShowsIn (IsAt levels) p looks P

-- each of the items shows what g makes this value, or shows this value
abbrev pub AreShownBy : {N : Type 0} {V : N → Type 0} (E : (x : N) → Text (V x)) {A B : Type 0} → Part N V A → (A → B) →
    List (List Atom) → List B → Type 0
AreShownBy E p g items vs = AllZip (λ item v. ShowsIn E p (seen_of item) (λ a. g a ≡ v)) items vs

abbrev pub AreShown : {A : Type 0} → IsPart A → List (List Atom) → List A → Type 0
AreShown p items vs = AreShownBy (IsAt levels) p (λ a. a) items vs

module _ {N : Type 0} {V : N → Type 0} {E : (x : N) → Text (V x)} where
  -- what follows from what holds holds too
  pub so_shows : {A : Type 0} {p : Part N V A} {looks : List Seen} {P Q : A → Type 0} → ((a : A) → P a → Q a) → ShowsIn E p looks P →
      ShowsIn E p looks Q
  so_shows then of = record {
    each = λ ts e.
        let (a, is, has) = of.each ts e in
        (a, is, then a has);
  }

  pub looks_show : {A : Type 0} {p : Part N V A} {looks others : List Seen} {P : A → Type 0} → looks ≡ others → ShowsIn E p others P →
      ShowsIn E p looks P
  looks_show e of = record { each = λ ts f. of.each ts (f ∙ e) }

  -- one lemma for each word of a part

  nothing_shows : {A : Type 0} {a : A} → ShowsIn E (nothing a) [] (λ b. b ≡ a)
  nothing_shows {a = a} = record { each = λ ts e. (a, (none_seen ts e, refl), refl) }

  pub token_shows : {A : Type 0} {s : Sign} {f : Piece → A} {x : Seen} {P : A → Type 0} → lets s x.kind x.bytes ≡ true →
      ((t : Piece) → t.bytes ≡ x.bytes → P (f t)) → ShowsIn E (token s f) (x ∷ []) P
  token_shows {s = s} {f} {x} passed of = record {
    each = λ ts e.
        let is = starts_with ts x [] e in (
          f is.t,
          (is.t, is.splits ∙ ap (λ us. is.t ∷ us) (none_seen is.back is.rest), let_by s is.t x.kind x.bytes passed is.kind is.bytes, refl),
          of is.t is.bytes,
        );
  }

  pub skip_shows : {A : Type 0} {s : Sign} {p : Part N V A} {x : Seen} {looks : List Seen} {P : A → Type 0} → lets s x.kind x.bytes ≡ true →
      ShowsIn E p looks P → ShowsIn E (s ▹ p) (x ∷ looks) P
  skip_shows {s = s} {x = x} {looks} passed of = record {
    each = λ ts e.
        let is = starts_with ts x looks e in
        let (a, reads, has) = of.each is.back is.rest in
        (a, (is.t, is.back, let_by s is.t x.kind x.bytes passed is.kind is.bytes, reads, is.splits), has);
  }

  -- a balanced run of tokens
  pub enclosed_shows : {o c : Sign} {x : Seen} {looks : List Seen} → lets o x.kind x.bytes ≡ true → closes o c looks 1 ≡ true →
      ShowsIn E (enclosed o c) (x ∷ looks) (λ a. a ≡ tt)
  enclosed_shows {o = o} {c} {x} {looks} passed balanced = record {
    each = λ ts e.
        let is = starts_with ts x looks e in
        let closed = closes_by o c is.back 1 (ap (λ xs. closes o c xs 1) is.rest ∙ balanced) in
        (tt, (is.t, is.back, let_by o is.t x.kind x.bytes passed is.kind is.bytes, closed, is.splits), refl);
  }

  pub both_show : {A B : Type 0} {p : Part N V A} {q : Part N V B} {front back looks : List Seen} {P : A → Type 0} {Q : B → Type 0} →
      looks ≡ front ++ back → ShowsIn E p front P → ShowsIn E q back Q → ShowsIn E (p ⋆ q) looks (λ x. P x.0 × Q x.1)
  both_show {front = front} {back} e of then = record {
    each = λ ts f.
        let s = seen_split ts front back (f ∙ e) in
        let (a, is, has) = of.each s.front s.before in
        let (b, next, holds) = then.each s.back s.behind in
        ((a, b), (s.front, s.back, is, next, s.splits), (has, holds));
  }

  pub says_shows : {A B : Type 0} {f : List Piece → A → B} {p : Part N V A} {looks : List Seen} {P : A → Type 0} {Q : B → Type 0} →
      ((ts : List Piece) (a : A) → P a → Q (f ts a)) → ShowsIn E p looks P → ShowsIn E (says f p) looks Q
  says_shows {f = f} then of = record {
    each = λ ts e.
        let (a, is, has) = of.each ts e in
        (f ts a, (a, is, refl), then ts a has);
  }

  pub mapped_shows : {A B : Type 0} {f : A → B} {p : Part N V A} {looks : List Seen} {P : A → Type 0} {Q : B → Type 0} →
      ((a : A) → P a → Q (f a)) → ShowsIn E p looks P → ShowsIn E (mapped f p) looks Q
  mapped_shows then = says_shows (λ ts. then)

  pub left_shows : {A : Type 0} {p q : Part N V A} {looks : List Seen} {P : A → Type 0} → ShowsIn E p looks P → ShowsIn E (p or q) looks P
  left_shows of = record {
    each = λ ts e.
        let (a, is, has) = of.each ts e in
        (a, inl is, has);
  }

  pub right_shows : {A : Type 0} {p q : Part N V A} {looks : List Seen} {P : A → Type 0} → ShowsIn E q looks P → ShowsIn E (p or q) looks P
  right_shows of = record {
    each = λ ts e.
        let (a, is, has) = of.each ts e in
        (a, inr is, has);
  }

  pub none_shows : {A : Type 0} {p : Part N V A} → ShowsIn E (maybe p) [] (λ o. o ≡ None)
  none_shows = record { each = λ ts e. (None, none_seen ts e, refl) }

  pub many_none : {A : Type 0} {p : Part N V A} → ShowsIn E (many p) [] (λ xs. xs ≡ [])
  many_none = record { each = λ ts e. ([], none_seen ts e, refl) }

  pub some_shows : {A : Type 0} {p : Part N V A} {looks : List Seen} {P : A → Type 0} → ShowsIn E p looks P →
      ShowsIn E (maybe p) looks (λ o. (a : A) × (o ≡ Some a) × P a)
  some_shows of = record {
    each = λ ts e.
        let (a, is, has) = of.each ts e in
        (Some a, is, (a, refl, has));
  }

  pub just_shows : {A : Type 0} {p : Part N V A} {looks : List Seen} {v : A} → ShowsIn E p looks (λ a. a ≡ v) →
      ShowsIn E (maybe p) looks (λ o. o ≡ Some v)
  just_shows of = so_shows (λ o (a, some, same). some ∙ ap Some same) (some_shows of)

  pub sign_shows : {s : Sign} {x : Seen} → lets s x.kind x.bytes ≡ true → ShowsIn E (sign s) (x ∷ []) (λ a. a ≡ tt)
  sign_shows passed = skip_shows passed nothing_shows

  pub ends_show : {A : Type 0} {s : Sign} {p : Part N V A} {front looks : List Seen} {P : A → Type 0} (x : Seen) →
      lets s x.kind x.bytes ≡ true → looks ≡ front ++ x ∷ [] → ShowsIn E p front P → ShowsIn E (p ◃ s) looks P
  ends_show x passed e of = mapped_shows (λ x has. has.0) (both_show e of (sign_shows passed))

  -- what is only this value is this value
  pub is_so : {A : Type 0} {p : Part N V A} {looks : List Seen} {v : A} → ShowsIn E p looks (λ a. a ≡ v) →
      (ts : List Piece) → seen ts ≡ looks → Is E p ts v
  is_so {p = p} of ts e =
      let (a, is, same) = of.each ts e in
      subst (λ v. Is E p ts v) same is

  -- where nothing stands

  pub optional_none : {A : Type 0} {p : Part N V A} → ShowsIn E (mapped {B = Unit {0}} (λ _. tt) (maybe p)) [] (λ a. a ≡ tt)
  optional_none = mapped_shows (λ a none. refl) none_shows

  pub run_none : {A : Type 0} {p : Part N V A} → ShowsIn E (mapped {B = Unit {0}} (λ _. tt) (many p)) [] (λ a. a ≡ tt)
  run_none = mapped_shows (λ a none. refl) many_none

  pub then_none : {A B : Type 0} {p : Part N V A} {q : Part N V B} {looks : List Seen} {P : A → Type 0} {Q : B → Type 0} →
      ShowsIn E p looks P → ShowsIn E q [] Q → ShowsIn E (p ⋆ q) looks (λ x. P x.0 × Q x.1)
  then_none {looks = looks} of none = both_show (sym (append-nil looks)) of none

  -- many, where g of each is the value there

  pub no_more : {A B : Type 0} {p : Part N V A} {g : A → B} → ShowsIn E (many p) [] (λ xs. map g xs ≡ [])
  no_more = record { each = λ ts e. ([], none_seen ts e, refl) }

  pub one_more : {A B : Type 0} {p : Part N V A} {g : A → B} {front back looks : List Seen} {v : B} {vs : List B} →
      looks ≡ front ++ back → ShowsIn E p front (λ a. g a ≡ v) → ShowsIn E (many p) back (λ xs. map g xs ≡ vs) →
      ShowsIn E (many p) looks (λ xs. map g xs ≡ v ∷ vs)
  one_more {front = front} {back} e of then = record {
    each = λ ts f.
        let s = seen_split ts front back (f ∙ e) in
        let (a, is, has) = of.each s.front s.before in
        let (xs, are, have) = then.each s.back s.behind in
        (a ∷ xs, (s.front, s.back, is, are, s.splits), rw (has, have) refl);
  }

  pub many_shows : {X A B : Type 0} {p : Part N V A} {h : A → B} (P : X → Type 0) (f : X → List Atom) (g : X → B) →
      ((x : X) → P x → ShowsIn E p (seen_of (f x)) (λ a. h a ≡ g x)) → (xs : List X) → AllByRecursion P xs →
      ShowsIn E (many p) (seen_of (flat_map f xs)) (λ ys. map h ys ≡ map g xs)
  many_shows P f g so [] are = no_more
  many_shows P f g so (x ∷ xs) (is, are) = one_more (seen_of_append (f x) (flat_map f xs)) (so x is) (many_shows P f g so xs are)

  -- each of these values
  pub unmapped : {A : Type 0} {p : Part N V (List A)} {looks : List Seen} {vs : List A} → ShowsIn E p looks (λ xs. map (λ x. x) xs ≡ vs) →
      ShowsIn E p looks (λ xs. xs ≡ vs)
  unmapped of = so_shows (λ xs same. sym (map-id xs) ∙ same) of

  -- with commas between them

  pub commas_show : {A B : Type 0} {p : Part N V A} {g : A → B} (items : List (List Atom)) (vs : List B) → AreShownBy E p g items vs →
      ShowsIn E (many (mark (codes ",") ▹ p)) (seen_of (flat_map behind_comma items)) (λ xs. map g xs ≡ vs)
  commas_show [] [] shown = no_more
  commas_show (item ∷ items) (v ∷ vs) (first, others) =
      one_more (seen_of_append (behind_comma item) (flat_map behind_comma items)) (skip_shows refl first) (commas_show items vs others)
  commas_show _ _ shown = absurd shown

  pub some_show : {A B : Type 0} {p : Part N V A} {g : A → B} (item : List Atom) (items : List (List Atom)) (v : B) (vs : List B) →
      AreShownBy E p g (item ∷ items) (v ∷ vs) →
      ShowsIn E (some_with (mark (codes ",")) p) (seen_of (listed (item ∷ items))) (λ xs. map g xs ≡ v ∷ vs)
  some_show item items v vs (first, others) =
      mapped_shows (λ x has. rw (has.0, has.1) refl)
      (both_show (seen_of_append item (flat_map behind_comma items)) first (commas_show items vs others))

  pub list_shows : {A : Type 0} {p : Part N V A} (items : List (List Atom)) (vs : List A) → AreShownBy E p (λ a. a) items vs →
      ShowsIn E (list_with (mark (codes ",")) p) (seen_of (listed items)) (λ xs. xs ≡ vs)
  list_shows [] [] shown = mapped_shows (λ o none. rw none refl) none_shows
  list_shows (item ∷ items) (v ∷ vs) shown =
      mapped_shows (λ o (xs, some, same). rw some same) (some_shows (unmapped (some_show item items v vs shown)))
  list_shows _ _ shown = absurd shown

  -- in braces
  pub braced_shows : {A : Type 0} {p : Part N V A} (items : List (List Atom)) (vs : List A) → AreShownBy E p (λ a. a) items vs →
      ShowsIn E (mark (codes "{") ▹ list_with (mark (codes ",")) p ◃ mark (codes "}")) (seen_of (braced items)) (λ xs. xs ≡ vs)
  braced_shows [] vs shown = skip_shows refl (ends_show _ refl refl (list_shows [] vs shown))
  braced_shows (item ∷ items) vs shown =
      skip_shows refl (ends_show _ refl (seen_of_append (listed (item ∷ items)) _) (list_shows (item ∷ items) vs shown))

pub seen_of_three : (xs ys zs : List Atom) → seen_of ((xs ++ ys) ++ zs) ≡ seen_of xs ++ seen_of (ys ++ zs)
seen_of_three xs ys zs = simp (seen_of_append, append_assoc)
