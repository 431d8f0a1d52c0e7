-- Texts that go on to the end of their line are read exactly.
use Rattle.std.proofs.Common.{◌≡◌, ℕ, ◌<◌, Bool, true, false, ◌&&◌, cond, nat_eq, ◌⊎◌, inl, inr, List, [], ◌∷◌, ◌++◌, length, Option, Some, None, refl, sym, ◌∙◌, ap, subst, append_assoc, arith}
use Rattle.std.specs.List.{list_any}
use Rattle.ir_lex.specs.Kinds.{row}
use Rattle.ir_lex.specs.declared.token.Kind.{Kind}
use Rattle.ir_lex.specs.declared.token.Kind.TheVariants.{Word, Label, Global, Local, Comdat, Meta, MetaText, Group, SummaryNumber, HashWord, Number, Float, Quoted, Bytes, Mark, Dots}
use Rattle.unit_grammar.specs.Pieces.{Piece}
use Rattle.unit_grammar.specs.Signs.{Start, begins_any, fits}
use Rattle.unit_grammar.specs.Grammar.{Text}
use Rattle.unit_grammar.specs.Readers.{Read, found, absent, deep, Reader, then_read}
use Rattle.unit_grammar.specs.Exact.{IsFront, Finds, Reaches, Exact}
use Rattle.unit_grammar.proofs.BoolLemmas.{not_both}
use Rattle.unit_grammar.proofs.SignLaws.{any_one, any_longer}
use Rattle.unit_grammar.proofs.ExactLaws.{found_value, found_rest, then_found, then_deep}
use Rattle.module_grammar.specs.Lines.{stops, GoesOn, Lined, Known}
use Rattle.module_grammar.specs.Reading.{line_rest, lined_read, known, known_read}
use Rattle.module_grammar.specs.Beginnings.{all_signs, all_starts}

-- each token is of a kind
any_token : (t : Piece) (ts : List Piece) → begins_any all_starts (t ∷ ts) ≡ true
any_token t ts = any_one all_signs t ts ∙ some t.kind
  where
    some : (k : Kind) → list_any (λ s. nat_eq (row k) (row s.kind) && fits s.which t.bytes) all_signs ≡ true
    some Word = refl
    some Label = refl
    some Global = refl
    some Local = refl
    some Comdat = refl
    some Meta = refl
    some MetaText = refl
    some Group = refl
    some SummaryNumber = refl
    some HashWord = refl
    some Number = refl
    some Float = refl
    some Quoted = refl
    some Bytes = refl
    some Mark = refl
    some Dots = refl

no_token : (rest : List Piece) → begins_any all_starts rest ≡ false → rest ≡ []
no_token [] e = refl
no_token (t ∷ ts) e = absurd (not_both _ (any_token t ts) e)

-- the tokens before the rest go on with the line
line_front : (carried : List (List ℕ)) (end : ℕ) (ts : List Piece) →
    (front : List Piece) × GoesOn carried end front × (ts ≡ front ++ line_rest carried end ts)
line_front carried end [] = ([], tt, refl)
line_front carried end (t ∷ ts) = go (line_front carried t.end ts) (stops carried end t) refl
  where
    go : (front : List Piece) × GoesOn carried t.end front × (ts ≡ front ++ line_rest carried t.end ts) → (b : Bool) → stops carried end t ≡ b →
        (front : List Piece) × GoesOn carried end front × (t ∷ ts ≡ front ++ cond b (t ∷ ts) (line_rest carried t.end ts))
    go later true e = ([], tt, refl)
    go (front, goes, splits) false e = (t ∷ front, (e, goes), ap (λ z. t ∷ z) splits)

line_shorter : (carried : List (List ℕ)) (end : ℕ) (ts : List Piece) →
    (line_rest carried end ts ≡ ts) ⊎ (length (line_rest carried end ts) < length ts)
line_shorter carried end [] = inl refl
line_shorter carried end (t ∷ ts) = go (line_shorter carried t.end ts) (stops carried end t)
  where
    less : (line_rest carried t.end ts ≡ ts) ⊎ (length (line_rest carried t.end ts) < length ts) → length (line_rest carried t.end ts) < length (t ∷ ts)
    less (inl e) = let same : length (line_rest carried t.end ts) ≡ length ts = ap length e in omega arith
    less (inr h) = omega arith

    go : (line_rest carried t.end ts ≡ ts) ⊎ (length (line_rest carried t.end ts) < length ts) → (b : Bool) →
        (cond b (t ∷ ts) (line_rest carried t.end ts) ≡ t ∷ ts) ⊎ (length (cond b (t ∷ ts) (line_rest carried t.end ts)) < length (t ∷ ts))
    go later true = inl refl
    go later false = inr (less later)

-- behind tokens that go on with the line
behind_line : (carried : List (List ℕ)) (end : ℕ) (front rest : List Piece) → GoesOn carried end front →
    (last : ℕ) × (line_rest carried end (front ++ rest) ≡ line_rest carried last rest)
behind_line carried end [] rest goes = (end, refl)
behind_line carried end (t ∷ front) rest (goes, others) =
    let (last, e) = behind_line carried t.end front rest others in
    (last, ap (λ b. cond b (t ∷ (front ++ rest)) (line_rest carried t.end (front ++ rest))) goes ∙ e)

reached_line : (carried : List (List ℕ)) (end : ℕ) (front rest : List Piece) → GoesOn carried end front →
    (line_rest carried end (front ++ rest) ≡ rest) ⊎ (length (line_rest carried end (front ++ rest)) < length rest)
reached_line carried end front rest goes =
    let (last, e) = behind_line carried end front rest goes in
    elim (line_shorter carried last rest) [
      | inl h ↦ inl (e ∙ h)
      | inr h ↦ inr (subst (λ (x : List Piece). length x < length rest) (sym e) h)
    ]

ended_line : (carried : List (List ℕ)) (end : ℕ) (front rest : List Piece) → GoesOn carried end front → rest ≡ [] →
    line_rest carried end (front ++ rest) ≡ rest
ended_line carried end front rest goes none =
    let (last, e) = behind_line carried end front rest goes in
    e ∙ ap (λ x. line_rest carried last x) none ∙ sym none

line_finds : {A : Type 0} (carried : List (List ℕ)) (D : Type 0) (r : Read (A × ℕ)) (a : A) (end : ℕ) (mid rest : List Piece) →
    Finds D r (a, end) mid → line_rest carried end mid ≡ rest → Finds D (then_read r (λ x last. found x.0 (line_rest carried x.1 last))) a rest
line_finds carried D (found x after) a end mid rest (e, f) same =
    (ap (λ y. y.0) e, ap (λ y. line_rest carried y.1 after) e ∙ ap (λ z. line_rest carried end z) f ∙ same)
line_finds carried D absent a end mid rest h same = h
line_finds carried D deep a end mid rest h same = h

line_reaches : {A : Type 0} (carried : List (List ℕ)) (D : Type 0) (r : Read (A × ℕ)) (a : A) (end : ℕ) (mid rest : List Piece) →
    Finds D r (a, end) mid → (line_rest carried end mid ≡ rest) ⊎ (length (line_rest carried end mid) < length rest) →
    Reaches (then_read r (λ x last. found x.0 (line_rest carried x.1 last))) a rest
line_reaches {A} carried D (found x after) a end mid rest (e, f) h = go h
  where
    same : line_rest carried x.1 after ≡ line_rest carried end mid
    same = ap (λ (y : A × ℕ). line_rest carried y.1 after) e ∙ ap (λ z. line_rest carried end z) f

    go : (line_rest carried end mid ≡ rest) ⊎ (length (line_rest carried end mid) < length rest) → Reaches (found x.0 (line_rest carried x.1 after)) a rest
    go (inl i) = inr (ap (λ (y : A × ℕ). y.0) e, same ∙ i)
    go (inr less) = inl (subst (λ (z : List Piece). length z < length rest) (sym same) less)
line_reaches carried D absent a end mid rest h less = h
line_reaches carried D deep a end mid rest h less = tt

joined : (ts f x g rest : List Piece) → ts ≡ f ++ x → x ≡ g ++ rest → ts ≡ (f ++ g) ++ rest
joined ts f x g rest a b = a ∙ ap (λ z. f ++ z) b ∙ sym (append_assoc f g rest)

line_sound : {A : Type 0} (carried : List (List ℕ)) (P : Text (A × ℕ)) (p : Reader (A × ℕ)) →
    ((ts rest : List Piece) (x : A × ℕ) → p ts ≡ found x rest → IsFront P ts x rest) →
    (ts rest : List Piece) (a : A) → lined_read carried p ts ≡ found a rest → IsFront (Lined carried P) ts a rest
line_sound {A} carried P p sound ts rest a e =
    let (x, mid, is, same) = then_found (p ts) (λ (x : A × ℕ) (last : List Piece). found x.0 (line_rest carried x.1 last)) a rest e in
    go x mid is same
  where
    go : (x : A × ℕ) (mid : List Piece) → p ts ≡ found x mid → found x.0 (line_rest carried x.1 mid) ≡ found a rest → IsFront (Lined carried P) ts a rest
    go (b, end) mid is same =
        let f = sound ts mid (b, end) is in
        let (line, goes, splits) = line_front carried end mid in
        let whole : IsFront (Lined carried P) ts b (line_rest carried end mid) =
        record { front = f.front ++ line; is = (f.front, line, end, f.is, goes, refl); splits = joined _ _ _ _ _ f.splits splits } in
        subst (λ (z : List Piece). IsFront (Lined carried P) ts a z) (found_rest same)
        (subst (λ (z : A). IsFront (Lined carried P) ts z (line_rest carried end mid)) (found_value same) whole)

pub lined_exact : {A : Type 0} {P Q : Text (A × ℕ)} {D : Type 0} {O : List Piece → Type 0} {p : Reader (A × ℕ)} {S : List Start} (carried : List (List ℕ)) →
    Exact P Q D O p S [] false → Exact (Lined carried P) (Lined carried Q) D O (lined_read carried p) S all_starts false
lined_exact {A} {P} {Q} {D} {O} {p} {S} carried h = record {
  sound = line_sound carried P p h.sound;
  opened = λ ts e.
      elim (then_deep (p ts) (λ (x : A × ℕ) (last : List Piece). found x.0 (line_rest carried x.1 last)) e) [
        | inl d ↦ h.opened ts d
        | inr d ↦ absurd (cc d.3)
      ];
  within = λ ts a (front, back, end, is, goes, splits). (front, back, end, h.within front (a, end) is, goes, splits);
  starts = λ ts a (front, back, end, is, goes, splits).
      elim (h.starts front (a, end) is) [
        | inl e ↦ absurd (not_both false e.1 refl)
        | inr e ↦ inr (subst (λ (x : List Piece). begins_any S x ≡ true) (sym splits) (any_longer S front back e))
      ];
  finds = λ front rest a (f, g, end, is, goes, splits) ends.
      let whole : f ++ (g ++ rest) ≡ front ++ rest = sym (append_assoc f g rest) ∙ ap (λ z. z ++ rest) (sym splits) in
      subst (λ (x : List Piece). Finds {A = A} D (lined_read carried p x) a rest) whole
      (line_finds carried D (p (f ++ (g ++ rest))) a end (g ++ rest) rest (h.finds f (g ++ rest) (a, end) is refl)
      (ended_line carried end g rest goes (no_token rest ends)));
  reaches = λ front rest a (f, g, end, is, goes, splits).
      let whole : f ++ (g ++ rest) ≡ front ++ rest = sym (append_assoc f g rest) ∙ ap (λ z. z ++ rest) (sym splits) in
      subst (λ (x : List Piece). Reaches {A = A} (lined_read carried p x) a rest) whole
      (line_reaches carried D (p (f ++ (g ++ rest))) a end (g ++ rest) rest (h.finds f (g ++ rest) (a, end) is refl)
      (reached_line carried end g rest goes));
  absent_at = λ ts e none. rw (h.absent_at ts refl none) refl;
  never_absent = λ ts e. absurd cc;
  deep_starts = λ ts e.
      elim (then_deep (p ts) (λ (x : A × ℕ) (last : List Piece). found x.0 (line_rest carried x.1 last)) e) [
        | inl d ↦ h.deep_starts ts d
        | inr d ↦ absurd (cc d.3)
      ];
}

-- texts that say something

known_sound : {A : Type 0} (P : Text (Option A × ℕ)) (p : Reader (Option A × ℕ)) →
    ((ts rest : List Piece) (x : Option A × ℕ) → p ts ≡ found x rest → IsFront P ts x rest) →
    (ts rest : List Piece) (y : A × ℕ) → known_read p ts ≡ found y rest → IsFront (Known P) ts y rest
known_sound {A} P p sound ts rest y e =
    let (x, mid, is, same) = then_found (p ts) (λ (x : Option A × ℕ) (last : List Piece). known x.0 x.1 last) y rest e in
    go x mid is same
  where
    go : (x : Option A × ℕ) (mid : List Piece) → p ts ≡ found x mid → known x.0 x.1 mid ≡ found y rest → IsFront (Known P) ts y rest
    go (None, end) mid is same = absurd cc
    go (Some b, end) mid is same =
        let f = sound ts mid (Some b, end) is in
        let whole : IsFront (Known P) ts (b, end) mid = record { front = f.front; is = f.is; splits = f.splits } in
        subst (λ (z : List Piece). IsFront (Known P) ts y z) (found_rest same)
        (subst (λ (z : A × ℕ). IsFront (Known P) ts z mid) (found_value same) whole)

known_deep : {A : Type 0} (x : Option A) (end : ℕ) (rest : List Piece) → known x end rest ≡ deep → ⊥
known_deep None end rest e = cc
known_deep (Some a) end rest e = cc

known_opens : {A : Type 0} (p : Reader (Option A × ℕ)) (ts : List Piece) → known_read p ts ≡ deep → p ts ≡ deep
known_opens {A} p ts e =
    elim (then_deep (p ts) (λ (x : Option A × ℕ) (last : List Piece). known x.0 x.1 last) e) [
      | inl d ↦ d
      | inr d ↦ absurd (known_deep d.0.0 d.0.1 d.1 d.3)
    ]

known_finds : {A : Type 0} (D : Type 0) (r : Read (Option A × ℕ)) (y : A × ℕ) (rest : List Piece) → Finds D r (Some y.0, y.1) rest →
    Finds D (then_read r (λ x last. known x.0 x.1 last)) y rest
known_finds {A} D (found x after) (a, end) rest (e, f) =
    subst (λ (z : Option A × ℕ). Finds D (known z.0 z.1 after) (a, end) rest) (sym e) (refl, f)
known_finds D absent y rest h = h
known_finds D deep y rest h = h

finds_reaches : {A : Type 0} (D : Type 0) (r : Read A) (a : A) (rest : List Piece) → Finds D r a rest → Reaches r a rest
finds_reaches D (found b after) a rest h = inr h
finds_reaches D absent a rest h = h
finds_reaches D deep a rest h = tt

pub known_exact : {A : Type 0} {P Q : Text (Option A × ℕ)} {D : Type 0} {O : List Piece → Type 0} {p : Reader (Option A × ℕ)} {S : List Start} →
    Exact P Q D O p S [] false → Exact (Known P) (Known Q) D O (known_read p) S [] false
known_exact {A} {P} {Q} {D} {O} {p} {S} h = record {
  sound = known_sound P p h.sound;
  opened = λ ts e. h.opened ts (known_opens p ts e);
  within = λ ts y is. h.within ts (Some y.0, y.1) is;
  starts = λ ts y is. h.starts ts (Some y.0, y.1) is;
  finds = λ front rest y is ends. known_finds D (p (front ++ rest)) y rest (h.finds front rest (Some y.0, y.1) is ends);
  reaches = λ front rest y is.
      finds_reaches D (known_read p (front ++ rest)) y rest (known_finds D (p (front ++ rest)) y rest (h.finds front rest (Some y.0, y.1) is refl));
  absent_at = λ ts e none. rw (h.absent_at ts refl none) refl;
  never_absent = λ ts e. absurd cc;
  deep_starts = λ ts e. h.deep_starts ts (known_opens p ts e);
}
