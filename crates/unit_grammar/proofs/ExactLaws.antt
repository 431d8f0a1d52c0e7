-- A part and its reader, one law a word.
use Rattle.std.proofs.Common.{◌≡◌, ◌<◌, ◌≤◌, ◌-◌, Bool, true, false, cond, ◌&&◌, ◌||◌, ◌⊎◌, inl, inr, List, [], ◌∷◌, ◌++◌, map, take, length, Option, Some, None, refl, sym, ◌∙◌, ap, subst, append_assoc, length-append, arith}
use Rattle.std.proofs.Math.Seq.{take-append_seam}
use Rattle.unit_grammar.specs.Pieces.{Piece}
use Rattle.unit_grammar.specs.Signs.{Sign, passes, Start, begins_any, all_apart}
use Rattle.unit_grammar.specs.Grammar.{Text, Perhaps}
use Rattle.unit_grammar.specs.Readers.{Read, found, absent, deep, Reader, then_read, else_read, token_read, sign_read, maybe_read, before}
use Rattle.unit_grammar.specs.Beginnings.{one_sign, two_signs}
use Rattle.unit_grammar.specs.Exact.{IsFront, Finds, Reaches, Exact}
use Rattle.unit_grammar.proofs.BoolLemmas.{and_both, is_false, not_both, test}
use Rattle.unit_grammar.proofs.SignLaws.{never_other, any_longer, any_first, any_second, none_of_both, begins_one, begins_not, begins_two}

-- the values of what was found
pub found_value : {A : Type 0} {a b : A} {ts us : List Piece} → found a ts ≡ found b us → a ≡ b
found_value e = cc

pub found_rest : {A : Type 0} {a b : A} {ts us : List Piece} → found a ts ≡ found b us → ts ≡ us
found_rest e = cc

-- what a step of a reader found
pub then_found : {A B : Type 0} (r : Read A) (f : A → List Piece → Read B) (b : B) (last : List Piece) → then_read r f ≡ found b last →
    (a : A) × (rest : List Piece) × (r ≡ found a rest) × (f a rest ≡ found b last)
then_found (found a rest) f b last e = (a, rest, refl, e)
then_found absent f b last e = absurd cc
then_found deep f b last e = absurd cc

pub then_deep : {A B : Type 0} (r : Read A) (f : A → List Piece → Read B) → then_read r f ≡ deep →
    (r ≡ deep) ⊎ ((a : A) × (rest : List Piece) × (r ≡ found a rest) × (f a rest ≡ deep))
then_deep (found a rest) f e = inr (a, rest, refl, e)
then_deep absent f e = absurd cc
then_deep deep f e = inl refl

-- no token

abbrev IsNothing : {A : Type 0} → A → Text A
IsNothing x ts a = (ts ≡ []) × (a ≡ x)

pub nothing_exact : {A : Type 0} (D : Type 0) (x : A) → Exact (IsNothing x) (IsNothing x) D (λ _. ⊥) (λ ts. found x ts) [] [] true
nothing_exact D x = record {
  sound = λ ts rest a e. record { front = []; is = (refl, sym (found_value e)); splits = found_rest e };
  opened = λ ts e. absurd cc;
  within = λ ts a h. h;
  starts = λ ts a (is, says). inl (is, refl);
  finds = λ front rest a (is, says) ends. rw is (sym says, refl);
  reaches = λ front rest a (is, says). rw is (inr (sym says, refl));
  absent_at = λ ts e. absurd cc;
  never_absent = λ ts e is. cc;
  deep_starts = λ ts e. absurd cc;
}

-- one token

abbrev IsOne : {A : Type 0} → Sign → (Piece → A) → Text A
IsOne s f ts a = (t : Piece) × (ts ≡ t ∷ []) × (passes s t ≡ true) × (a ≡ f t)

one_sound : {A : Type 0} (s : Sign) (f : Piece → A) (ts rest : List Piece) (a : A) → token_read s f ts ≡ found a rest → IsFront (IsOne s f) ts a rest
one_sound s f [] rest a e = absurd cc
one_sound {A} s f (t ∷ ts) rest a e = go (passes s t) refl e
  where
    go : (b : Bool) → passes s t ≡ b → then_read (cond b (found t ts) absent) (λ u last. found (f u) last) ≡ found a rest → IsFront (IsOne s f) (t ∷ ts) a rest
    go true passed e = record { front = t ∷ []; is = (t, refl, passed, sym (found_value e)); splits = ap (λ z. t ∷ z) (found_rest e) }
    go false passed e = absurd cc

one_opened : {A : Type 0} (s : Sign) (f : Piece → A) (ts : List Piece) → token_read s f ts ≡ deep → ⊥
one_opened s f [] e = cc
one_opened {A} s f (t ∷ ts) e = go (passes s t) e
  where
    go : (b : Bool) → then_read {B = A} (cond b (found t ts) absent) (λ u last. found (f u) last) ≡ deep → ⊥
    go true e = cc
    go false e = cc

one_absent : {A : Type 0} (s : Sign) (f : Piece → A) (ts : List Piece) → begins_any (one_sign s ∷ []) ts ≡ false → token_read s f ts ≡ absent
one_absent s f [] e = refl
one_absent s f (t ∷ ts) e = rw (begins_not s t ts e) refl

pub token_exact : {A : Type 0} (D : Type 0) (s : Sign) (f : Piece → A) → Exact (IsOne s f) (IsOne s f) D (λ _. ⊥) (token_read s f) (one_sign s ∷ []) [] false
token_exact D s f = record {
  sound = one_sound s f;
  opened = one_opened s f;
  within = λ ts a h. h;
  starts = λ ts a (t, is, passed, says). inr (rw is (begins_one s t [] passed));
  finds = λ front rest a (t, is, passed, says) ends. rw (is, passed) (sym says, refl);
  reaches = λ front rest a (t, is, passed, says). rw (is, passed) (inr (sym says, refl));
  absent_at = λ ts e none. one_absent s f ts none;
  never_absent = λ ts e. absurd cc;
  deep_starts = λ ts e. absurd (one_opened s f ts e);
}

-- a token that says nothing, then a text

abbrev IsSkip : {A : Type 0} → Sign → Text A → Text A
IsSkip s P ts a = (t : Piece) × (back : List Piece) × (passes s t ≡ true) × P back a × (ts ≡ t ∷ back)

abbrev OpensSkip : Sign → (List Piece → Type 0) → List Piece → Type 0
OpensSkip s O ts = (t : Piece) × (back : List Piece) × (passes s t ≡ true) × O back × (ts ≡ t ∷ back)

abbrev skip_starts : Sign → Bool → List Start → List Start
skip_starts s z S = cond z (one_sign s ∷ []) (map (two_signs s) S)

skip_begins : (s : Sign) (z : Bool) (S : List Start) (t : Piece) (back : List Piece) → passes s t ≡ true →
    ((back ≡ []) × (z ≡ true)) ⊎ (begins_any S back ≡ true) → begins_any (skip_starts s z S) (t ∷ back) ≡ true
skip_begins s true S t back e h = begins_one s t back e
skip_begins s false S t back e (inl (_, f)) = absurd cc
skip_begins s false S t back e (inr h) = begins_two s S t back e h

skip_none : (s : Sign) (z : Bool) (S : List Start) (t : Piece) (back : List Piece) → passes s t ≡ true →
    begins_any (skip_starts s z S) (t ∷ back) ≡ false → (z ≡ false) × (begins_any S back ≡ false)
skip_none s true S t back e none = absurd (not_both _ (begins_one s t back e) none)
skip_none s false S t back e none = (refl, is_false _ (λ h. not_both _ (begins_two s S t back e h) none))

skip_found : {A : Type 0} (s : Sign) (p : Reader A) (ts rest : List Piece) (a : A) → sign_read s p ts ≡ found a rest →
    (t : Piece) × (back : List Piece) × (passes s t ≡ true) × (p back ≡ found a rest) × (ts ≡ t ∷ back)
skip_found s p [] rest a e = absurd cc
skip_found {A} s p (t ∷ ts) rest a e = go (passes s t) refl e
  where
    go : (b : Bool) → passes s t ≡ b → then_read {A = Unit {0}} (cond b (found tt ts) absent) (λ _ last. p last) ≡ found a rest →
        (u : Piece) × (back : List Piece) × (passes s u ≡ true) × (p back ≡ found a rest) × (t ∷ ts ≡ u ∷ back)
    go true passed e = (t, ts, passed, e, refl)
    go false passed e = absurd cc

skip_deep : {A : Type 0} (s : Sign) (p : Reader A) (ts : List Piece) → sign_read s p ts ≡ deep →
    (t : Piece) × (back : List Piece) × (passes s t ≡ true) × (p back ≡ deep) × (ts ≡ t ∷ back)
skip_deep s p [] e = absurd cc
skip_deep {A} s p (t ∷ ts) e = go (passes s t) refl e
  where
    go : (b : Bool) → passes s t ≡ b → then_read {A = Unit {0}} (cond b (found tt ts) absent) (λ _ last. p last) ≡ deep →
        (u : Piece) × (back : List Piece) × (passes s u ≡ true) × (p back ≡ deep) × (t ∷ ts ≡ u ∷ back)
    go true passed e = (t, ts, passed, e, refl)
    go false passed e = absurd cc

skip_absent : {A : Type 0} (s : Sign) (p : Reader A) (z : Bool) (S : List Start) →
    ((ts : List Piece) → z ≡ false → begins_any S ts ≡ false → p ts ≡ absent) →
    (ts : List Piece) → begins_any (skip_starts s z S) ts ≡ false → sign_read s p ts ≡ absent
skip_absent s p z S absent_at [] none = refl
skip_absent s p z S absent_at (t ∷ ts) none =
    test (passes s t)
    (λ passed. let (e, f) = skip_none s z S t ts passed none in rw (passed, absent_at ts e f) refl)
    (λ not_passed. rw not_passed refl)

pub skip_exact : {A : Type 0} {P Q : Text A} {D : Type 0} {O : List Piece → Type 0} {p : Reader A} {S M : List Start} {z : Bool} (s : Sign) →
    Exact P Q D O p S M z → Exact (IsSkip s P) (IsSkip s Q) D (OpensSkip s O) (sign_read s p) (skip_starts s z S) M false
skip_exact {A} {P} {Q} {D} {O} {p} {S} {M} {z} s h = record {
  sound = λ ts rest a e.
      let (t, back, passed, is, splits) = skip_found s p ts rest a e in
      let f = h.sound back rest a is in
      record { front = t ∷ f.front; is = (t, f.front, passed, f.is, refl); splits = splits ∙ ap (λ z. t ∷ z) f.splits };
  opened = λ ts e.
      let (t, back, passed, is, splits) = skip_deep s p ts e in
      (t, back, passed, h.opened back is, splits);
  within = λ ts a (t, back, passed, is, splits). (t, back, passed, h.within back a is, splits);
  starts = λ ts a (t, back, passed, is, splits). inr (rw splits (skip_begins s z S t back passed (h.starts back a is)));
  finds = λ front rest a (t, back, passed, is, splits) ends. rw (splits, passed) (h.finds back rest a is ends);
  reaches = λ front rest a (t, back, passed, is, splits). rw (splits, passed) (h.reaches back rest a is);
  absent_at = λ ts e none. skip_absent s p z S h.absent_at ts none;
  never_absent = λ ts e. absurd cc;
  deep_starts = λ ts e.
      let (t, back, passed, is, splits) = skip_deep s p ts e in
      rw splits (skip_begins s z S t back passed (inr (h.deep_starts back is)));
}

-- a text, then another

abbrev IsThen : {A B : Type 0} → Text A → Text B → Text (A × B)
IsThen P Q ts c = (front : List Piece) × (back : List Piece) × P front c.0 × Q back c.1 × (ts ≡ front ++ back)

abbrev OpensThen : {A : Type 0} → Text A → (List Piece → Type 0) → (List Piece → Type 0) → List Piece → Type 0
OpensThen P O R ts = O ts ⊎ ((front : List Piece) × (back : List Piece) × (a : _) × P front a × R back × (ts ≡ front ++ back))

abbrev pair_read : {A B : Type 0} → Reader B → A → List Piece → Read (A × B)
pair_read q a rest = then_read (q rest) (λ b last. found (a, b) last)

abbrev both_read : {A B : Type 0} → Reader A → Reader B → Reader (A × B)
both_read p q ts = then_read (p ts) (pair_read q)

-- two fronts, one behind the other
joined : (ts f x g rest : List Piece) → ts ≡ f ++ x → x ≡ g ++ rest → ts ≡ (f ++ g) ++ rest
joined ts f x g rest a b = a ∙ ap (λ z. f ++ z) b ∙ sym (append_assoc f g rest)

pub front_length : (front rest ts : List Piece) → ts ≡ front ++ rest → length rest ≤ length ts
front_length front rest ts e = rw e (simp length-append (omega arith))

both_sound : {A B : Type 0} (P : Text A) (R : Text B) (p : Reader A) (q : Reader B) →
    ((ts rest : List Piece) (a : A) → p ts ≡ found a rest → IsFront P ts a rest) →
    ((ts rest : List Piece) (b : B) → q ts ≡ found b rest → IsFront R ts b rest) →
    (ts rest : List Piece) (c : A × B) → both_read p q ts ≡ found c rest → IsFront (IsThen P R) ts c rest
both_sound {A} {B} P R p q sp sq ts rest c e =
    let (a, mid, isa, more) = then_found (p ts) (pair_read q) c rest e in
    let (b, last, isb, same) = then_found (q mid) (λ (y : B) (z : List Piece). found (a, y) z) c rest more in
    let f = sp ts mid a isa in
    let g = sq mid last b isb in
    let whole : IsFront (IsThen P R) ts (a, b) last = record { front = f.front ++ g.front; is = (f.front, g.front, f.is, g.is, refl); splits = joined _ _ _ _ _ f.splits g.splits } in
    subst (λ (z : List Piece). IsFront (IsThen P R) ts c z) (found_rest same)
    (subst (λ (z : A × B). IsFront (IsThen P R) ts z last) (found_value same) whole)

both_opened : {A B : Type 0} (P : Text A) (O R : List Piece → Type 0) (p : Reader A) (q : Reader B) →
    ((ts rest : List Piece) (a : A) → p ts ≡ found a rest → IsFront P ts a rest) →
    ((ts : List Piece) → p ts ≡ deep → O ts) → ((ts : List Piece) → q ts ≡ deep → R ts) →
    (ts : List Piece) → both_read p q ts ≡ deep → OpensThen P O R ts
both_opened {A} {B} P O R p q sp op oq ts e =
    elim (then_deep (p ts) (pair_read q) e) [
      | inl h ↦ inl (op ts h)
      | inr h ↦ inr (second h.0 h.1 h.2 h.3)
    ]
  where
    second : (a : A) (mid : List Piece) → p ts ≡ found a mid → pair_read q a mid ≡ deep →
        (front : List Piece) × (back : List Piece) × (x : A) × P front x × R back × (ts ≡ front ++ back)
    second a mid isa e =
        let f = sp ts mid a isa in
        elim (then_deep (q mid) (λ (y : B) (z : List Piece). found (a, y) z) e) [
          | inl h ↦ (f.front, mid, a, f.is, oq mid h, f.splits)
          | inr h ↦ absurd (cc h.3)
        ]

-- what follows the first text doesn't make it longer
pub follows : (M N S : List Start) (z : Bool) (back rest : List Piece) → all_apart M S ≡ true → ((back ≡ []) × (z ≡ true)) ⊎ (begins_any S back ≡ true) →
    begins_any (N ++ cond z M []) rest ≡ false → begins_any M (back ++ rest) ≡ false
follows M N S z back rest told (inl (e, f)) ends =
    let none : begins_any (cond z M []) rest ≡ false = (none_of_both N (cond z M []) rest ends).1 in
    let there : begins_any M rest ≡ false = rw f at none in
    rw e there
follows M N S z back rest told (inr h) ends = never_other M S (back ++ rest) told (any_longer S back rest h)

pair_finds : {A B : Type 0} (D : Type 0) (a x : A) (y : Read B) (b : B) (rest : List Piece) → x ≡ a → Finds D y b rest →
    Finds {A = A × B} D (then_read y (λ c last. found (x, c) last)) (a, b) rest
pair_finds D a x (found c last) b rest e (f, g) = (rw (e, f) refl, g)
pair_finds D a x absent b rest e h = h
pair_finds D a x deep b rest e h = h

both_finds : {A B : Type 0} (D : Type 0) (q : Reader B) (x : Read A) (a : A) (b : B) (mid rest : List Piece) → Finds D x a mid → Finds D (q mid) b rest →
    Finds {A = A × B} D (then_read x (pair_read q)) (a, b) rest
both_finds D q (found c after) a b mid rest (e, f) h =
    pair_finds D a c (q after) b rest e (subst (λ (z : List Piece). Finds D (q z) b rest) (sym f) h)
both_finds D q absent a b mid rest h g = h
both_finds D q deep a b mid rest h g = h

pair_reaches : {A B : Type 0} (a x : A) (y : Read B) (b : B) (rest : List Piece) → x ≡ a → Reaches y b rest →
    Reaches {A = A × B} (then_read y (λ c last. found (x, c) last)) (a, b) rest
pair_reaches a x (found c last) b rest e (inl h) = inl h
pair_reaches a x (found c last) b rest e (inr (f, g)) = inr (rw (e, f) refl, g)
pair_reaches a x absent b rest e h = h
pair_reaches a x deep b rest e h = h

-- the first is longer, and the second takes what is left or a part of it
pair_longer : {A B : Type 0} (a x : A) (y : Read B) (b : B) (after rest : List Piece) → (y ≡ absent → ⊥) →
    ((c : B) (last : List Piece) → y ≡ found c last → length last ≤ length after) → length after < length rest →
    Reaches {A = A × B} (then_read y (λ c last. found (x, c) last)) (a, b) rest
pair_longer a x (found c last) b after rest never short less = let h = short c last refl in inl (omega arith)
pair_longer a x absent b after rest never short less = absurd (never refl)
pair_longer a x deep b after rest never short less = tt

-- the second text has tokens
both_reaches : {A B : Type 0} (D : Type 0) (q : Reader B) (x : Read A) (a : A) (b : B) (mid rest : List Piece) → Finds D x a mid → Reaches (q mid) b rest →
    Reaches {A = A × B} (then_read x (pair_read q)) (a, b) rest
both_reaches D q (found c after) a b mid rest (e, f) h =
    pair_reaches a c (q after) b rest e (subst (λ (z : List Piece). Reaches (q z) b rest) (sym f) h)
both_reaches D q absent a b mid rest h g = absurd h
both_reaches D q deep a b mid rest h g = tt

-- the second text has none
last_reaches : {A B : Type 0} (q : Reader B) (x : Read A) (a : A) (b : B) (rest : List Piece) → ((ts : List Piece) → q ts ≡ absent → ⊥) →
    ((ts last : List Piece) (c : B) → q ts ≡ found c last → length last ≤ length ts) → Reaches x a rest → Reaches (q rest) b rest →
    Reaches {A = A × B} (then_read x (pair_read q)) (a, b) rest
last_reaches q (found c after) a b rest never short (inl less) h = pair_longer a c (q after) b after rest (never after) (λ y last. short after last y) less
last_reaches q (found c after) a b rest never short (inr (e, f)) h =
    pair_reaches a c (q after) b rest e (subst (λ (z : List Piece). Reaches (q z) b rest) (sym f) h)
last_reaches q absent a b rest never short h g = absurd h
last_reaches q deep a b rest never short h g = tt

and_false_of : (z y : Bool) → (z && y) ≡ false → z ≡ true → y ≡ false
and_false_of z y e f = rw f at e

both_absent : {A B : Type 0} (p : Reader A) (q : Reader B) (S T : List Start) (z y : Bool) (P : Text A) →
    ((ts rest : List Piece) (a : A) → p ts ≡ found a rest → IsFront P ts a rest) →
    ((ts : List Piece) (a : A) → P ts a → ((ts ≡ []) × (z ≡ true)) ⊎ (begins_any S ts ≡ true)) →
    ((ts : List Piece) → p ts ≡ deep → begins_any S ts ≡ true) →
    ((ts : List Piece) → z ≡ false → begins_any S ts ≡ false → p ts ≡ absent) →
    ((ts : List Piece) → y ≡ false → begins_any T ts ≡ false → q ts ≡ absent) →
    (ts : List Piece) → (z && y) ≡ false → begins_any (S ++ cond z T []) ts ≡ false → both_read p q ts ≡ absent
both_absent {A} {B} p q S T z y P sound starts opened p_absent q_absent ts e none = go (p ts) refl
  where
    first : begins_any S ts ≡ false
    first = (none_of_both S (cond z T []) ts none).0

    second : z ≡ true → begins_any T ts ≡ false
    second f = let there = (none_of_both S (cond z T []) ts none).1 in rw f at there

    go : (x : Read A) → p ts ≡ x → then_read x (pair_read q) ≡ absent
    go absent is = refl
    go deep is = absurd (not_both _ (opened ts is) first)
    go (found a mid) is =
        let f = sound ts mid a is in
        elim (starts f.front a f.is) [
          | inl h ↦
              let same : ts ≡ mid = f.splits ∙ ap (λ z. z ++ mid) h.0 in
              let none_there : begins_any T mid ≡ false = subst (λ (z : List Piece). begins_any T z ≡ false) same (second h.1) in
              rw (q_absent mid (and_false_of z y e h.1) none_there) refl
          | inr h ↦ absurd (not_both _ (subst (λ (z : List Piece). begins_any S z ≡ true) (sym f.splits) (any_longer S f.front mid h)) first)
        ]

both_never : {A B : Type 0} (p : Reader A) (q : Reader B) (ts : List Piece) → (p ts ≡ absent → ⊥) → ((us : List Piece) → q us ≡ absent → ⊥) →
    both_read p q ts ≡ absent → ⊥
both_never {A} {B} p q ts p_never q_never e = go (p ts) refl e
  where
    last : (a : A) (y : Read B) → (y ≡ absent → ⊥) → then_read {B = A × B} y (λ b rest. found (a, b) rest) ≡ absent → ⊥
    last a (found b rest) never e = cc
    last a absent never e = never refl
    last a deep never e = cc

    go : (x : Read A) → p ts ≡ x → then_read x (pair_read q) ≡ absent → ⊥
    go (found a mid) is e = last a (q mid) (q_never mid) e
    go absent is e = p_never is
    go deep is e = cc

both_deep_starts : {A B : Type 0} (p : Reader A) (q : Reader B) (S T : List Start) (z : Bool) (P : Text A) →
    ((ts rest : List Piece) (a : A) → p ts ≡ found a rest → IsFront P ts a rest) →
    ((ts : List Piece) (a : A) → P ts a → ((ts ≡ []) × (z ≡ true)) ⊎ (begins_any S ts ≡ true)) →
    ((ts : List Piece) → p ts ≡ deep → begins_any S ts ≡ true) →
    ((ts : List Piece) → q ts ≡ deep → begins_any T ts ≡ true) →
    (ts : List Piece) → both_read p q ts ≡ deep → begins_any (S ++ cond z T []) ts ≡ true
both_deep_starts {A} {B} p q S T z P sound starts p_deep q_deep ts e = go (p ts) refl e
  where
    last : (a : A) (y : Read B) → then_read {B = A × B} y (λ b rest. found (a, b) rest) ≡ deep → y ≡ deep
    last a (found b rest) e = absurd cc
    last a absent e = absurd cc
    last a deep e = refl

    go : (x : Read A) → p ts ≡ x → then_read x (pair_read q) ≡ deep → begins_any (S ++ cond z T []) ts ≡ true
    go absent is e = absurd cc
    go deep is e = any_first S (cond z T []) ts (p_deep ts is)
    go (found a mid) is e =
        let f = sound ts mid a is in
        let there : begins_any T mid ≡ true = q_deep mid (last a (q mid) e) in
        elim (starts f.front a f.is) [
          | inl h ↦
              let same : mid ≡ ts = sym (f.splits ∙ ap (λ z. z ++ mid) h.0) in
              any_second S (cond z T []) ts (rw h.1 (subst (λ (z : List Piece). begins_any T z ≡ true) same there))
          | inr h ↦
              any_first S (cond z T []) ts (subst (λ (z : List Piece). begins_any S z ≡ true) (sym f.splits) (any_longer S f.front mid h))
        ]

both_start : (S T : List Start) (z y : Bool) (ts f g : List Piece) → ts ≡ f ++ g → ((f ≡ []) × (z ≡ true)) ⊎ (begins_any S f ≡ true) →
    ((g ≡ []) × (y ≡ true)) ⊎ (begins_any T g ≡ true) → ((ts ≡ []) × ((z && y) ≡ true)) ⊎ (begins_any (S ++ cond z T []) ts ≡ true)
both_start S T z y ts f g e (inr h) k = inr (any_first S (cond z T []) ts (subst (λ (x : List Piece). begins_any S x ≡ true) (sym e) (any_longer S f g h)))
both_start S T z y ts f g e (inl (h, i)) (inl (k, l)) = inl (rw (e, h, k) refl, rw (i, l) refl)
both_start S T z y ts f g e (inl (h, i)) (inr k) =
    let same : g ≡ ts = sym (e ∙ ap (λ x. x ++ g) h) in
    inr (any_second S (cond z T []) ts (rw i (subst (λ (x : List Piece). begins_any T x ≡ true) same k)))

pub then_exact : {A B : Type 0} {P Q : Text A} {R V : Text B} {D : Type 0} {O U : List Piece → Type 0} {p : Reader A} {q : Reader B} {S M T N : List Start} {z y : Bool} →
    all_apart M T ≡ true → Exact P Q D O p S M z → Exact R V D U q T N y →
    Exact (IsThen P R) (IsThen Q V) D (OpensThen P O U) (both_read p q) (S ++ cond z T []) (N ++ cond y M []) (z && y)
then_exact {A} {B} {P} {Q} {R} {V} {D} {O} {U} {p} {q} {S} {M} {T} {N} {z} {y} told h k = record {
  sound = both_sound P R p q h.sound k.sound;
  opened = both_opened P O U p q h.sound h.opened k.opened;
  within = λ ts c (f, g, isf, isg, splits). (f, g, h.within f c.0 isf, k.within g c.1 isg, splits);
  starts = λ ts c (f, g, isf, isg, splits). both_start S T z y ts f g splits (h.starts f c.0 isf) (k.starts g c.1 isg);
  finds = λ front rest c (f, g, isf, isg, splits) ends.
      let first = h.finds f (g ++ rest) c.0 isf (follows M N T y g rest told (k.starts g c.1 isg) ends) in
      let second = k.finds g rest c.1 isg (none_of_both N (cond y M []) rest ends).0 in
      let whole : f ++ (g ++ rest) ≡ front ++ rest = sym (append_assoc f g rest) ∙ ap (λ z. z ++ rest) (sym splits) in
      subst (λ (x : List Piece). Finds {A = A × B} D (both_read p q x) c rest) whole
      (both_finds D q (p (f ++ (g ++ rest))) c.0 c.1 (g ++ rest) rest first second);
  reaches = λ front rest c (f, g, isf, isg, splits).
      let whole : f ++ (g ++ rest) ≡ front ++ rest = sym (append_assoc f g rest) ∙ ap (λ z. z ++ rest) (sym splits) in
      subst (λ (x : List Piece). Reaches {A = A × B} (both_read p q x) c rest) whole
      (elim (k.starts g c.1 isg) [
        | inl e ↦
            let none : g ++ rest ≡ rest = ap (λ x. x ++ rest) e.0 in
            let short : (ts last : List Piece) (b : B) → q ts ≡ found b last → length last ≤ length ts =
            (λ ts last b is. let fr = k.sound ts last b is in front_length fr.front last ts fr.splits) in
            let first : Reaches (p (f ++ rest)) c.0 rest = h.reaches f rest c.0 isf in
            let second : Reaches (q rest) c.1 rest = subst (λ (x : List Piece). Reaches (q x) c.1 rest) none (k.reaches g rest c.1 isg) in
            subst (λ (x : List Piece). Reaches {A = A × B} (both_read p q (f ++ x)) c rest) (sym none)
            (last_reaches q (p (f ++ rest)) c.0 c.1 rest (λ ts. k.never_absent ts e.1) short first second)
        | inr e ↦
            let first = h.finds f (g ++ rest) c.0 isf (never_other M T (g ++ rest) told (any_longer T g rest e)) in
            both_reaches D q (p (f ++ (g ++ rest))) c.0 c.1 (g ++ rest) rest first (k.reaches g rest c.1 isg)
      ]);
  absent_at = both_absent p q S T z y P h.sound (λ ts a is. h.starts ts a (h.within ts a is)) h.deep_starts h.absent_at k.absent_at;
  never_absent = λ ts e.
      let (first, second) = and_both z y e in
      both_never p q ts (h.never_absent ts first) (λ us. k.never_absent us second);
  deep_starts = both_deep_starts p q S T z P h.sound (λ ts a is. h.starts ts a (h.within ts a is)) h.deep_starts k.deep_starts;
}

-- what a text says

abbrev IsSaid : {A B : Type 0} → (List Piece → A → B) → Text A → Text B
IsSaid f P ts b = (a : _) × P ts a × (b ≡ f ts a)

abbrev said_read : {A B : Type 0} → (List Piece → A → B) → Reader A → Reader B
said_read f p ts = then_read (p ts) (λ a rest. found (f (before ts rest) a) rest)

pub before_is : (front rest : List Piece) → before (front ++ rest) rest ≡ front
before_is front rest =
    let e : length (front ++ rest) - length rest ≡ length front = simp length-append (omega arith) in
    ap (λ n. take n (front ++ rest)) e ∙ take-append_seam front rest

said_finds : {A B : Type 0} (D : Type 0) (f : List Piece → A → B) (x : Read A) (front rest : List Piece) (a : A) → Finds D x a rest →
    Finds D (then_read x (λ c last. found (f (before (front ++ rest) last) c) last)) (f front a) rest
said_finds D f (found c after) front rest a (e, g) =
    (rw (e, g) (ap (λ z. f z a) (before_is front rest)), g)
said_finds D f absent front rest a h = h
said_finds D f deep front rest a h = h

said_reaches : {A B : Type 0} (f : List Piece → A → B) (x : Read A) (front rest : List Piece) (a : A) → Reaches x a rest →
    Reaches (then_read x (λ c last. found (f (before (front ++ rest) last) c) last)) (f front a) rest
said_reaches f (found c after) front rest a (inl h) = inl h
said_reaches f (found c after) front rest a (inr (e, g)) = inr (rw (e, g) (ap (λ z. f z a) (before_is front rest)), g)
said_reaches f absent front rest a h = h
said_reaches f deep front rest a h = h

pub said_exact : {A B : Type 0} {P Q : Text A} {D : Type 0} {O : List Piece → Type 0} {p : Reader A} {S M : List Start} {z : Bool} (f : List Piece → A → B) →
    Exact P Q D O p S M z → Exact (IsSaid f P) (IsSaid f Q) D O (said_read f p) S M z
said_exact {A} {B} {P} {Q} {D} {O} {p} {S} {M} {z} f h = record {
  sound = λ ts rest b e.
      let (a, last, isa, same) = then_found (p ts) (λ (c : A) (l : List Piece). found (f (before ts l) c) l) b rest e in
      let g = h.sound ts last a isa in
      let front : before ts last ≡ g.front = ap (λ x. before x last) g.splits ∙ before_is g.front last in
      let says : b ≡ f g.front a = sym (found_value same) ∙ ap (λ x. f x a) front in
      let whole : IsFront (IsSaid f P) ts b last = record { front = g.front; is = (a, g.is, says); splits = g.splits } in
      subst (λ (x : List Piece). IsFront (IsSaid f P) ts b x) (found_rest same) whole;
  opened = λ ts e.
      elim (then_deep (p ts) (λ (c : A) (l : List Piece). found (f (before ts l) c) l) e) [
        | inl d ↦ h.opened ts d
        | inr d ↦ absurd (cc d.3)
      ];
  within = λ ts b (a, is, says). (a, h.within ts a is, says);
  starts = λ ts b (a, is, says). h.starts ts a is;
  finds = λ front rest b (a, is, says) ends. rw says (said_finds D f (p (front ++ rest)) front rest a (h.finds front rest a is ends));
  reaches = λ front rest b (a, is, says). rw says (said_reaches f (p (front ++ rest)) front rest a (h.reaches front rest a is));
  absent_at = λ ts e none. rw (h.absent_at ts e none) refl;
  never_absent = λ ts e is. h.never_absent ts e (said_absent f p ts is);
  deep_starts = λ ts e.
      elim (then_deep (p ts) (λ (c : A) (l : List Piece). found (f (before ts l) c) l) e) [
        | inl d ↦ h.deep_starts ts d
        | inr d ↦ absurd (cc d.3)
      ];
}
  where
    said_absent : {A B : Type 0} (f : List Piece → A → B) (p : Reader A) (ts : List Piece) → said_read f p ts ≡ absent → p ts ≡ absent
    said_absent {A} {B} f p ts e = go (p ts) e
      where
        go : (x : Read A) → then_read x (λ c last. found (f (before ts last) c) last) ≡ absent → x ≡ absent
        go (found c last) e = absurd cc
        go absent e = refl
        go deep e = absurd cc

-- the one or the other

abbrev IsEither : {A : Type 0} → Text A → Text A → Text A
IsEither P R ts a = P ts a ⊎ R ts a

abbrev either_read : {A : Type 0} → Reader A → Reader A → Reader A
either_read p q ts = else_read (p ts) (q ts)

else_found : {A : Type 0} (x y : Read A) (a : A) (rest : List Piece) → else_read x y ≡ found a rest → (x ≡ found a rest) ⊎ (y ≡ found a rest)
else_found (found b after) y a rest e = inl e
else_found absent y a rest e = inr e
else_found deep y a rest e = absurd cc

else_deep : {A : Type 0} (x y : Read A) → else_read x y ≡ deep → (x ≡ deep) ⊎ (y ≡ deep)
else_deep (found b after) y e = absurd cc
else_deep absent y e = inr e
else_deep deep y e = inl refl

else_finds : {A : Type 0} (D : Type 0) (x y : Read A) (a : A) (rest : List Piece) → Finds D x a rest → Finds D (else_read x y) a rest
else_finds D (found b after) y a rest h = h
else_finds D absent y a rest h = absurd h
else_finds D deep y a rest h = h

else_reaches : {A : Type 0} (x y : Read A) (a : A) (rest : List Piece) → Reaches x a rest → Reaches (else_read x y) a rest
else_reaches (found b after) y a rest h = h
else_reaches absent y a rest h = absurd h
else_reaches deep y a rest h = h

pub some_text : (ts : List Piece) (z : Bool) (S : List Start) → z ≡ false → ((ts ≡ []) × (z ≡ true)) ⊎ (begins_any S ts ≡ true) → begins_any S ts ≡ true
some_text ts z S e (inl h) = absurd (not_both z h.1 e)
some_text ts z S e (inr h) = h

pub either_exact : {A : Type 0} {P Q R V : Text A} {D : Type 0} {O U : List Piece → Type 0} {p q : Reader A} {S M T N : List Start} {z y : Bool} →
    z ≡ false → y ≡ false → all_apart S T ≡ true → Exact P Q D O p S M z → Exact R V D U q T N y →
    Exact (IsEither P R) (IsEither Q V) D (λ ts. O ts ⊎ U ts) (either_read p q) (S ++ T) (M ++ N) (z || y)
either_exact {A} {P} {Q} {R} {V} {D} {O} {U} {p} {q} {S} {M} {T} {N} {z} {y} some other told h k = record {
  sound = λ ts rest a e.
      elim (else_found (p ts) (q ts) a rest e) [
        | inl g ↦ let f = h.sound ts rest a g in record { front = f.front; is = inl f.is; splits = f.splits }
        | inr g ↦ let f = k.sound ts rest a g in record { front = f.front; is = inr f.is; splits = f.splits }
      ];
  opened = λ ts e.
      elim (else_deep (p ts) (q ts) e) [ inl g ↦ inl (h.opened ts g) | inr g ↦ inr (k.opened ts g) ];
  within = λ ts a is.
      elim is [ inl g ↦ inl (h.within ts a g) | inr g ↦ inr (k.within ts a g) ];
  starts = λ ts a is.
      elim is [
        | inl g ↦ inr (any_first S T ts (some_text ts z S some (h.starts ts a g)))
        | inr g ↦ inr (any_second S T ts (some_text ts y T other (k.starts ts a g)))
      ];
  finds = λ front rest a is ends.
      let (first, second) = none_of_both M N rest ends in
      elim is [
        | inl g ↦ else_finds D (p (front ++ rest)) (q (front ++ rest)) a rest (h.finds front rest a g first)
        | inr g ↦
            let none = never_other S T (front ++ rest) told (any_longer T front rest (some_text front y T other (k.starts front a g))) in
            rw (h.absent_at (front ++ rest) some none) (k.finds front rest a g second)
      ];
  reaches = λ front rest a is.
      elim is [
        | inl g ↦ else_reaches (p (front ++ rest)) (q (front ++ rest)) a rest (h.reaches front rest a g)
        | inr g ↦
            let none = never_other S T (front ++ rest) told (any_longer T front rest (some_text front y T other (k.starts front a g))) in
            rw (h.absent_at (front ++ rest) some none) (k.reaches front rest a g)
      ];
  absent_at = λ ts e none.
      let (first, second) = none_of_both S T ts none in
      rw (h.absent_at ts some first, k.absent_at ts other second) refl;
  never_absent = λ ts e. absurd (cc (some, other, e));
  deep_starts = λ ts e.
      elim (else_deep (p ts) (q ts) e) [
        | inl g ↦ any_first S T ts (h.deep_starts ts g)
        | inr g ↦ any_second S T ts (k.deep_starts ts g)
      ];
}

-- nothing, or one

maybe_found : {A : Type 0} (x : Read A) (ts rest : List Piece) (o : Option A) → maybe_read x ts ≡ found o rest →
    ((x ≡ absent) × (o ≡ None) × (ts ≡ rest)) ⊎ ((a : A) × (x ≡ found a rest) × (o ≡ Some a))
maybe_found (found a after) ts rest o e = inr (a, ap (λ z. found a z) (found_rest e), sym (found_value e))
maybe_found absent ts rest o e = inl (refl, sym (found_value e), found_rest e)
maybe_found deep ts rest o e = absurd cc

maybe_deep : {A : Type 0} (x : Read A) (ts : List Piece) → maybe_read x ts ≡ deep → x ≡ deep
maybe_deep (found a after) ts e = absurd cc
maybe_deep absent ts e = absurd cc
maybe_deep deep ts e = refl

maybe_never : {A : Type 0} (x : Read A) (ts : List Piece) → maybe_read x ts ≡ absent → ⊥
maybe_never (found a after) ts e = cc
maybe_never absent ts e = cc
maybe_never deep ts e = cc

maybe_finds : {A : Type 0} (D : Type 0) (x : Read A) (ts : List Piece) (a : A) (rest : List Piece) → Finds D x a rest → Finds D (maybe_read x ts) (Some a) rest
maybe_finds D (found b after) ts a rest (e, f) = (ap Some e, f)
maybe_finds D absent ts a rest h = absurd h
maybe_finds D deep ts a rest h = h

maybe_reaches : {A : Type 0} (x : Read A) (ts : List Piece) (a : A) (rest : List Piece) → Reaches x a rest → Reaches (maybe_read x ts) (Some a) rest
maybe_reaches (found b after) ts a rest (inl h) = inl h
maybe_reaches (found b after) ts a rest (inr (e, f)) = inr (ap Some e, f)
maybe_reaches absent ts a rest h = absurd h
maybe_reaches deep ts a rest h = h

maybe_stays : {A : Type 0} (x : Read A) (ts : List Piece) → ((a : A) (rest : List Piece) → x ≡ found a rest → length rest < length ts) → Reaches (maybe_read x ts) None ts
maybe_stays (found b after) ts less = inl (less b after refl)
maybe_stays absent ts less = inr (refl, refl)
maybe_stays deep ts less = tt

pub begins_some : (S : List Start) (front rest : List Piece) → begins_any S front ≡ true → length rest < length (front ++ rest)
begins_some S [] rest e = absurd (none S e)
  where
    none : (S : List Start) → begins_any S [] ≡ true → ⊥
    none [] e = cc
    none (s ∷ S) e = none S e
begins_some S (t ∷ front) rest e = simp length-append (omega arith)

-- what a reader of texts with tokens found is followed by less
pub less_left : {A : Type 0} {P Q : Text A} {D : Type 0} {O : List Piece → Type 0} {p : Reader A} {S M : List Start} {z : Bool} → z ≡ false →
    Exact P Q D O p S M z → (ts : List Piece) (a : A) (rest : List Piece) → p ts ≡ found a rest → length rest < length ts
less_left {A} {P} {Q} {D} {O} {p} {S} {M} {z} e h ts a rest is =
    let f = h.sound ts rest a is in
    let begins = some_text f.front z S e (h.starts f.front a (h.within f.front a f.is)) in
    subst (λ (x : List Piece). length rest < length x) (sym f.splits) (begins_some S f.front rest begins)

perhaps_within : {A : Type 0} (P Q : Text A) → ((ts : List Piece) (a : A) → P ts a → Q ts a) → (ts : List Piece) (o : Option A) → Perhaps P ts o → Perhaps Q ts o
perhaps_within P Q h ts None is = is
perhaps_within P Q h ts (Some a) is = h ts a is

pub maybe_exact : {A : Type 0} {P Q : Text A} {D : Type 0} {O : List Piece → Type 0} {p : Reader A} {S M : List Start} {z : Bool} → z ≡ false →
    Exact P Q D O p S M z → Exact (Perhaps P) (Perhaps Q) D O (λ ts. maybe_read (p ts) ts) S (M ++ S) true
maybe_exact {A} {P} {Q} {D} {O} {p} {S} {M} {z} some h = record {
  sound = λ ts rest o e.
      elim (maybe_found (p ts) ts rest o e) [
        | inl g ↦ record { front = []; is = rw g.1 refl; splits = g.2 }
        | inr g ↦ let f = h.sound ts rest g.0 g.1 in record { front = f.front; is = rw g.2 f.is; splits = f.splits }
      ];
  opened = λ ts e. h.opened ts (maybe_deep (p ts) ts e);
  within = perhaps_within P Q h.within;
  starts = starts;
  finds = finds;
  reaches = reaches;
  absent_at = λ ts e. absurd cc;
  never_absent = λ ts e is. maybe_never (p ts) ts is;
  deep_starts = λ ts e. h.deep_starts ts (maybe_deep (p ts) ts e);
}
  where
    starts : (ts : List Piece) (o : Option A) → Perhaps Q ts o → ((ts ≡ []) × (true ≡ true)) ⊎ (begins_any S ts ≡ true)
    starts ts None is = inl (is, refl)
    starts ts (Some a) is = inr (some_text ts z S some (h.starts ts a is))

    finds : (front rest : List Piece) (o : Option A) → Perhaps Q front o → begins_any (M ++ S) rest ≡ false → Finds D (maybe_read (p (front ++ rest)) (front ++ rest)) o rest
    finds front rest None is ends = rw is (rw (h.absent_at rest some (none_of_both M S rest ends).1) (refl, refl))
    finds front rest (Some a) is ends =
        maybe_finds D (p (front ++ rest)) (front ++ rest) a rest (h.finds front rest a is (none_of_both M S rest ends).0)

    reaches : (front rest : List Piece) (o : Option A) → Perhaps Q front o → Reaches (maybe_read (p (front ++ rest)) (front ++ rest)) o rest
    reaches front rest None is = rw is (maybe_stays (p rest) rest (λ a after e. less_left some h rest a after e))
    reaches front rest (Some a) is = maybe_reaches (p (front ++ rest)) (front ++ rest) a rest (h.reaches front rest a is)
