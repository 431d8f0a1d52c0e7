-- Any number of texts of a part.
use Rattle.std.proofs.Common.{◌≡◌, ℕ, zero, suc, ◌<◌, ◌≤◌, Bool, true, false, ◌⊎◌, inl, inr, List, [], ◌∷◌, ◌++◌, length, refl, sym, ◌∙◌, ap, subst, append_assoc, append-nil, arith}
use Rattle.unit_grammar.specs.Pieces.{Piece}
use Rattle.unit_grammar.specs.Signs.{Start, begins_any, all_apart}
use Rattle.unit_grammar.specs.Grammar.{Text, Are}
use Rattle.unit_grammar.specs.Readers.{Read, found, absent, deep, Reader, many_on, many_read}
use Rattle.unit_grammar.specs.Exact.{Finds, Reaches, Exact}
use Rattle.unit_grammar.proofs.SignLaws.{never_other, any_longer, none_of_both}
use Rattle.unit_grammar.proofs.ExactLaws.{found_value, found_rest, some_text, begins_some, less_left}

-- what the loop found behind what was given
pub record Behind {A : Type 0} (P : List Piece → A → Type 0) (given : List A) (ts : List Piece) (xs : List A) (rest : List Piece) : Type 0 where
  pub items : List A
  pub front : List Piece
  pub are : Are P front items
  pub all : xs ≡ given ++ items
  pub splits : ts ≡ front ++ rest

many_behind : {A : Type 0} {P Q : Text A} {D : Type 0} {O : List Piece → Type 0} {p : Reader A} {S M : List Start} {z : Bool} → Exact P Q D O p S M z →
    (n : ℕ) (given : List A) (ts : List Piece) (xs : List A) (rest : List Piece) → many_read n p given ts ≡ found xs rest → Behind P given ts xs rest
many_behind h zero given ts xs rest e =
    record { items = []; front = []; are = refl; all = sym (found_value e) ∙ sym (append-nil given); splits = found_rest e }
many_behind {A} {P} {Q} {D} {O} {p} h (suc n) given ts xs rest e = go (λ a mid. many_behind h n (given ++ a ∷ []) mid xs rest) (p ts) refl e
  where
    go : ((a : A) (mid : List Piece) → many_read n p (given ++ a ∷ []) mid ≡ found xs rest → Behind P (given ++ a ∷ []) mid xs rest) →
        (x : Read A) → p ts ≡ x → many_on x given ts (many_read n p) ≡ found xs rest → Behind P given ts xs rest
    go next absent is e = record { items = []; front = []; are = refl; all = sym (found_value e) ∙ sym (append-nil given); splits = found_rest e }
    go next deep is e = absurd cc
    go next (found a mid) is e =
        let f = h.sound ts mid a is in
        let g = next a mid e in
        record {
          items = a ∷ g.items;
          front = f.front ++ g.front;
          are = (f.front, g.front, f.is, g.are, refl);
          all = g.all ∙ append_assoc given (a ∷ []) g.items;
          splits = f.splits ∙ ap (λ x. f.front ++ x) g.splits ∙ sym (append_assoc f.front g.front rest);
        }

many_opened : {A : Type 0} {P Q : Text A} {D : Type 0} {O : List Piece → Type 0} {p : Reader A} {S M : List Start} {z : Bool} → Exact P Q D O p S M z →
    (n : ℕ) (given : List A) (ts : List Piece) → many_read n p given ts ≡ deep →
    (front : List Piece) × (back : List Piece) × (xs : List A) × Are P front xs × O back × (ts ≡ front ++ back)
many_opened h zero given ts e = absurd cc
many_opened {A} {P} {Q} {D} {O} {p} h (suc n) given ts e = go (λ a mid. many_opened h n (given ++ a ∷ []) mid) (p ts) refl e
  where
    go : ((a : A) (mid : List Piece) → many_read n p (given ++ a ∷ []) mid ≡ deep →
        (front : List Piece) × (back : List Piece) × (xs : List A) × Are P front xs × O back × (mid ≡ front ++ back)) →
        (x : Read A) → p ts ≡ x → many_on x given ts (many_read n p) ≡ deep →
        (front : List Piece) × (back : List Piece) × (xs : List A) × Are P front xs × O back × (ts ≡ front ++ back)
    go next absent is e = absurd cc
    go next deep is e = ([], ts, [], refl, h.opened ts is, refl)
    go next (found a mid) is e =
        let f = h.sound ts mid a is in
        let (front, back, xs, are, o, splits) = next a mid e in (
          f.front ++ front,
          back,
          a ∷ xs,
          (f.front, front, f.is, are, refl),
          o,
          f.splits ∙ ap (λ x. f.front ++ x) splits ∙ sym (append_assoc f.front front back),
        )

pub many_never : {A : Type 0} (n : ℕ) (p : Reader A) (given : List A) (ts : List Piece) → many_read n p given ts ≡ absent → ⊥
many_never zero p given ts e = cc
many_never {A} (suc n) p given ts e = go (λ a mid. many_never n p (given ++ a ∷ []) mid) (p ts) e
  where
    go : ((a : A) (mid : List Piece) → many_read n p (given ++ a ∷ []) mid ≡ absent → ⊥) → (x : Read A) → many_on x given ts (many_read n p) ≡ absent → ⊥
    go next (found a mid) e = next a mid e
    go next absent e = cc
    go next deep e = cc

many_deep_starts : {A : Type 0} {P Q : Text A} {D : Type 0} {O : List Piece → Type 0} {p : Reader A} {S M : List Start} {z : Bool} → z ≡ false → Exact P Q D O p S M z →
    (n : ℕ) (given : List A) (ts : List Piece) → many_read n p given ts ≡ deep → begins_any S ts ≡ true
many_deep_starts some h zero given ts e = absurd cc
many_deep_starts {A} {P} {Q} {D} {O} {p} {S} {M} {z} some h (suc n) given ts e = go (p ts) refl e
  where
    go : (x : Read A) → p ts ≡ x → many_on x given ts (many_read n p) ≡ deep → begins_any S ts ≡ true
    go absent is e = absurd cc
    go deep is e = h.deep_starts ts is
    go (found a mid) is e =
        let f = h.sound ts mid a is in
        let begins = some_text f.front z S some (h.starts f.front a (h.within f.front a f.is)) in
        subst (λ (x : List Piece). begins_any S x ≡ true) (sym f.splits) (any_longer S f.front mid begins)

are_within : {A : Type 0} (P Q : Text A) → ((ts : List Piece) (a : A) → P ts a → Q ts a) → (ts : List Piece) (xs : List A) → Are P ts xs → Are Q ts xs
are_within P Q h ts [] are = are
are_within P Q h ts (x ∷ xs) (f, g, is, are, splits) = (f, g, h f x is, are_within P Q h g xs are, splits)

-- a list that has an item has tokens
are_start : {A : Type 0} {P Q : Text A} {D : Type 0} {O : List Piece → Type 0} {p : Reader A} {S M : List Start} {z : Bool} → z ≡ false → Exact P Q D O p S M z →
    (ts : List Piece) (xs : List A) → Are Q ts xs → ((ts ≡ []) × (xs ≡ [])) ⊎ (begins_any S ts ≡ true)
are_start some h ts [] are = inl (are, refl)
are_start {A} {P} {Q} {D} {O} {p} {S} {M} {z} some h ts (x ∷ xs) (f, g, is, are, splits) =
    let begins = some_text f z S some (h.starts f x is) in
    inr (subst (λ (x : List Piece). begins_any S x ≡ true) (sym splits) (any_longer S f g begins))

-- behind one of the items nothing stands that could make it longer
item_ends : (M S : List Start) (g rest : List Piece) (X : Type 0) → all_apart M S ≡ true → ((g ≡ []) × X) ⊎ (begins_any S g ≡ true) →
    begins_any M rest ≡ false → begins_any M (g ++ rest) ≡ false
item_ends M S g rest X told (inl (e, _)) ends = rw e ends
item_ends M S g rest X told (inr h) ends = never_other M S (g ++ rest) told (any_longer S g rest h)

shorter : (f g rest : List Piece) (n : ℕ) (S : List Start) → begins_any S f ≡ true → length (f ++ (g ++ rest)) ≤ suc n → length (g ++ rest) ≤ n
shorter f g rest n S e h = let less = begins_some S f (g ++ rest) e in omega arith

many_finds : {A : Type 0} {P Q : Text A} {D : Type 0} {O : List Piece → Type 0} {p : Reader A} {S M : List Start} {z : Bool} → z ≡ false → all_apart M S ≡ true →
    Exact P Q D O p S M z → (n : ℕ) (given xs : List A) (front rest : List Piece) → Are Q front xs → length (front ++ rest) ≤ n →
    begins_any M rest ≡ false → begins_any S rest ≡ false → Finds D (many_read n p given (front ++ rest)) (given ++ xs) rest
many_finds {A} {P} {Q} {D} {O} {p} some told h zero given [] front rest are small ends stops =
    rw are (sym (append-nil given), refl)
many_finds {A} {P} {Q} {D} {O} {p} some told h (suc n) given [] front rest are small ends stops =
    rw are (rw (h.absent_at rest some stops) (sym (append-nil given), refl))
many_finds {A} {P} {Q} {D} {O} {p} {S} {M} {z} some told h zero given (x ∷ xs) front rest (f, g, is, are, splits) small ends stops =
    let begins = some_text f z S some (h.starts f x is) in
    let less = begins_some S f (g ++ rest) begins in
    let whole : front ++ rest ≡ f ++ (g ++ rest) = ap (λ x. x ++ rest) splits ∙ append_assoc f g rest in
    let small' : length (f ++ (g ++ rest)) ≤ 0 = subst (λ (x : List Piece). length x ≤ 0) whole small in
    absurd (omega arith)
many_finds {A} {P} {Q} {D} {O} {p} {S} {M} {z} some told h (suc n) given (x ∷ xs) front rest (f, g, is, are, splits) small ends stops =
    subst (λ (y : List Piece). Finds {A = List A} D (many_read (suc n) p given y) (given ++ x ∷ xs) rest) (sym whole)
    (go (λ less. many_finds some told h n (given ++ x ∷ []) xs g rest are less ends stops) (p (f ++ (g ++ rest)))
    (h.finds f (g ++ rest) x is (item_ends M S g rest _ told (are_start some h g xs are) ends)))
  where
    whole : front ++ rest ≡ f ++ (g ++ rest)
    whole = ap (λ x. x ++ rest) splits ∙ append_assoc f g rest

    less : length (g ++ rest) ≤ n
    less = shorter f g rest n S (some_text f z S some (h.starts f x is)) (subst (λ (x : List Piece). length x ≤ suc n) whole small)

    later : (length (g ++ rest) ≤ n → Finds {A = List A} D (many_read n p (given ++ x ∷ []) (g ++ rest)) ((given ++ x ∷ []) ++ xs) rest) → Finds {A = List A} D (many_read n p (given ++ x ∷ []) (g ++ rest)) (given ++ x ∷ xs) rest
    later next =
        subst (λ (y : List A). Finds {A = List A} D (many_read n p (given ++ x ∷ []) (g ++ rest)) y rest) (append_assoc given (x ∷ []) xs)
        (next less)

    go : (length (g ++ rest) ≤ n → Finds {A = List A} D (many_read n p (given ++ x ∷ []) (g ++ rest)) ((given ++ x ∷ []) ++ xs) rest) → (r : Read A) → Finds D r x (g ++ rest) → Finds {A = List A} D (many_on r given (f ++ (g ++ rest)) (many_read n p)) (given ++ x ∷ xs) rest
    go next (found a mid) (e, i) = rw (e, i) (later next)
    go next absent e = absurd e
    go next deep e = e

-- the loop never gives up what was given
many_stays : {A : Type 0} {P Q : Text A} {D : Type 0} {O : List Piece → Type 0} {p : Reader A} {S M : List Start} {z : Bool} → z ≡ false → Exact P Q D O p S M z →
    (n : ℕ) (given : List A) (ts : List Piece) → Reaches (many_read n p given ts) given ts
many_stays some h zero given ts = inr (refl, refl)
many_stays {A} {P} {Q} {D} {O} {p} some h (suc n) given ts = go (λ a mid. many_stays some h n (given ++ a ∷ []) mid) (p ts) refl
  where
    longer : (r : Read (List A)) (more : List A) (mid : List Piece) → length mid < length ts → Reaches r more mid → Reaches r given ts
    longer (found xs rest) more mid less (inl e) = inl (omega arith)
    longer (found xs rest) more mid less (inr (e, f)) = inl (rw f less)
    longer absent more mid less e = absurd e
    longer deep more mid less e = tt

    go : ((a : A) (mid : List Piece) → Reaches {A = List A} (many_read n p (given ++ a ∷ []) mid) (given ++ a ∷ []) mid) → (r : Read A) → p ts ≡ r → Reaches (many_on r given ts (many_read n p)) given ts
    go next (found a mid) is = longer (many_read n p (given ++ a ∷ []) mid) (given ++ a ∷ []) mid (less_left some h ts a mid is) (next a mid)
    go next absent is = inr (refl, refl)
    go next deep is = tt

many_reaches : {A : Type 0} {P Q : Text A} {D : Type 0} {O : List Piece → Type 0} {p : Reader A} {S M : List Start} {z : Bool} → z ≡ false → all_apart M S ≡ true →
    Exact P Q D O p S M z → (n : ℕ) (given xs : List A) (front rest : List Piece) → Are Q front xs → length (front ++ rest) ≤ n →
    Reaches (many_read n p given (front ++ rest)) (given ++ xs) rest
many_reaches {A} {P} {Q} {D} {O} {p} some told h n given [] front rest are small =
    rw (are, append-nil given) (many_stays some h n given rest)
many_reaches {A} {P} {Q} {D} {O} {p} {S} {M} {z} some told h zero given (x ∷ xs) front rest (f, g, is, are, splits) small =
    let begins = some_text f z S some (h.starts f x is) in
    let less = begins_some S f (g ++ rest) begins in
    let whole : front ++ rest ≡ f ++ (g ++ rest) = ap (λ x. x ++ rest) splits ∙ append_assoc f g rest in
    let small' : length (f ++ (g ++ rest)) ≤ 0 = subst (λ (x : List Piece). length x ≤ 0) whole small in
    absurd (omega arith)
many_reaches {A} {P} {Q} {D} {O} {p} {S} {M} {z} some told h (suc n) given (x ∷ xs) front rest (f, g, is, are, splits) small =
    subst (λ (y : List Piece). Reaches {A = List A} (many_read (suc n) p given y) (given ++ x ∷ xs) rest) (sym whole)
    (elim (are_start some h g xs are) [
      | inl e ↦ last (many_reaches some told h n (given ++ x ∷ []) xs g rest are) e.0 e.1
      | inr e ↦ exact (many_reaches some told h n (given ++ x ∷ []) xs g rest are) (p (f ++ (g ++ rest))) (h.finds f (g ++ rest) x is (never_other M S (g ++ rest) told (any_longer S g rest e)))
    ])
  where
    whole : front ++ rest ≡ f ++ (g ++ rest)
    whole = ap (λ x. x ++ rest) splits ∙ append_assoc f g rest

    less : length (g ++ rest) ≤ n
    less = shorter f g rest n S (some_text f z S some (h.starts f x is)) (subst (λ (x : List Piece). length x ≤ suc n) whole small)

    later : (length (g ++ rest) ≤ n → Reaches {A = List A} (many_read n p (given ++ x ∷ []) (g ++ rest)) ((given ++ x ∷ []) ++ xs) rest) → Reaches {A = List A} (many_read n p (given ++ x ∷ []) (g ++ rest)) (given ++ x ∷ xs) rest
    later next =
        subst (λ (y : List A). Reaches {A = List A} (many_read n p (given ++ x ∷ []) (g ++ rest)) y rest) (append_assoc given (x ∷ []) xs)
        (next less)

    exact : (length (g ++ rest) ≤ n → Reaches {A = List A} (many_read n p (given ++ x ∷ []) (g ++ rest)) ((given ++ x ∷ []) ++ xs) rest) → (r : Read A) → Finds D r x (g ++ rest) → Reaches {A = List A} (many_on r given (f ++ (g ++ rest)) (many_read n p)) (given ++ x ∷ xs) rest
    exact next (found a mid) (e, i) = rw (e, i) (later next)
    exact next absent e = absurd e
    exact next deep e = tt

    longer : (r : Read (List A)) (more : List A) (mid : List Piece) → length mid < length rest → Reaches r more mid → Reaches r (given ++ x ∷ xs) rest
    longer (found ys after) more mid less (inl e) = inl (omega arith)
    longer (found ys after) more mid less (inr (e, i)) = inl (rw i less)
    longer absent more mid less e = absurd e
    longer deep more mid less e = tt

    one : (length (g ++ rest) ≤ n → Reaches {A = List A} (many_read n p (given ++ x ∷ []) (g ++ rest)) ((given ++ x ∷ []) ++ xs) rest) → (r : Read A) → Reaches r x rest → g ++ rest ≡ rest → Reaches {A = List A} (many_on r given (f ++ (g ++ rest)) (many_read n p)) (given ++ x ∷ xs) rest
    one next (found a mid) (inl e) none = longer (many_read n p (given ++ a ∷ []) mid) (given ++ a ∷ []) mid e (many_stays some h n (given ++ a ∷ []) mid)
    one next (found a mid) (inr (e, i)) none =
        rw (e, i) (subst (λ (y : List Piece). Reaches {A = List A} (many_read n p (given ++ x ∷ []) y) (given ++ x ∷ xs) rest) none (later next))
    one next absent e none = absurd e
    one next deep e none = tt

    last : (length (g ++ rest) ≤ n → Reaches {A = List A} (many_read n p (given ++ x ∷ []) (g ++ rest)) ((given ++ x ∷ []) ++ xs) rest) → g ≡ [] → xs ≡ [] → Reaches {A = List A} (many_on (p (f ++ (g ++ rest))) given (f ++ (g ++ rest)) (many_read n p)) (given ++ x ∷ xs) rest
    last next e i =
        let none : g ++ rest ≡ rest = ap (λ y. y ++ rest) e in
        one next (p (f ++ (g ++ rest))) (subst (λ (y : List Piece). Reaches (p (f ++ y)) x rest) (sym none) (h.reaches f rest x is)) none

pub many_exact : {A : Type 0} {P Q : Text A} {D : Type 0} {O : List Piece → Type 0} {p : Reader A} {S M : List Start} {z : Bool} → z ≡ false → all_apart M S ≡ true →
    Exact P Q D O p S M z →
    Exact (Are P) (Are Q) D (λ ts. (front : List Piece) × (back : List Piece) × (xs : List A) × Are P front xs × O back × (ts ≡ front ++ back))
    (λ ts. many_read (length ts) p [] ts) S (M ++ S) true
many_exact {A} {P} {Q} {D} {O} {p} {S} {M} {z} some told h = record {
  sound = λ ts rest xs e.
      let b = many_behind h (length ts) [] ts xs rest e in
      record { front = b.front; is = subst (λ (y : List A). Are P b.front y) (sym b.all) b.are; splits = b.splits };
  opened = λ ts e. many_opened h (length ts) [] ts e;
  within = are_within P Q h.within;
  starts = λ ts xs are. elim (are_start some h ts xs are) [ inl e ↦ inl (e.0, refl) | inr e ↦ inr e ];
  finds = λ front rest xs are ends.
      let (last, stops) = none_of_both M S rest ends in
      many_finds some told h (length (front ++ rest)) [] xs front rest are (omega arith) last stops;
  reaches = λ front rest xs are. many_reaches some told h (length (front ++ rest)) [] xs front rest are (omega arith);
  absent_at = λ ts e. absurd cc;
  never_absent = λ ts e is. many_never (length ts) p [] ts is;
  deep_starts = λ ts e. many_deep_starts some h (length ts) [] ts e;
}

-- where an item is opened too deep behind others, the loop tells it
pub many_deepens : {A : Type 0} {P : Text A} {O : List Piece → Type 0} {p : Reader A} {S M : List Start} {z : Bool} → z ≡ false → all_apart M S ≡ true →
    Exact P P ⊥ O p S M z → ((ts : List Piece) → O ts → p ts ≡ deep) → (n : ℕ) (given xs : List A) (front back : List Piece) → Are P front xs →
    O back → length (front ++ back) ≤ n → many_read n p given (front ++ back) ≡ deep
many_deepens {A} {P} {O} {p} {S} {M} {z} some told h deepens zero given [] front back are o small =
    let begins = h.deep_starts back (deepens back o) in
    let less : 0 < length back = some_left S back begins in
    let same : length (front ++ back) ≡ length back = rw are refl in
    absurd (omega arith)
  where
    some_left : (S : List Start) (ts : List Piece) → begins_any S ts ≡ true → 0 < length ts
    some_left S ts e = let less = begins_some S ts [] e in let same : length (ts ++ []) ≡ length ts = ap length (append-nil ts) in omega arith
many_deepens {A} {P} {O} {p} {S} {M} {z} some told h deepens (suc n) given [] front back are o small =
    rw are (rw (deepens back o) refl)
many_deepens {A} {P} {O} {p} {S} {M} {z} some told h deepens zero given (x ∷ xs) front back (f, g, is, are, splits) o small =
    let begins = some_text f z S some (h.starts f x is) in
    let less = begins_some S f (g ++ back) begins in
    let whole : front ++ back ≡ f ++ (g ++ back) = ap (λ x. x ++ back) splits ∙ append_assoc f g back in
    let small' : length (f ++ (g ++ back)) ≤ 0 = subst (λ (x : List Piece). length x ≤ 0) whole small in
    absurd (omega arith)
many_deepens {A} {P} {O} {p} {S} {M} {z} some told h deepens (suc n) given (x ∷ xs) front back (f, g, is, are, splits) o small =
    rw whole (go (many_deepens some told h deepens n (given ++ x ∷ []) xs g back are o less) (p (f ++ (g ++ back))) (h.finds f (g ++ back) x is follows))
  where
    whole : front ++ back ≡ f ++ (g ++ back)
    whole = ap (λ x. x ++ back) splits ∙ append_assoc f g back

    follows : begins_any M (g ++ back) ≡ false
    follows =
        elim (are_start some h g xs are) [
          | inl e ↦ rw e.0 (never_other M S back told (h.deep_starts back (deepens back o)))
          | inr e ↦ never_other M S (g ++ back) told (any_longer S g back e)
        ]

    less : length (g ++ back) ≤ n
    less = shorter f g back n S (some_text f z S some (h.starts f x is)) (subst (λ (x : List Piece). length x ≤ suc n) whole small)

    go : many_read n p (given ++ x ∷ []) (g ++ back) ≡ deep → (r : Read A) → Finds ⊥ r x (g ++ back) → many_on r given (f ++ (g ++ back)) (many_read n p) ≡ deep
    go next (found a mid) (e, i) = rw (e, i) next
    go next absent e = absurd e
    go next deep e = refl
