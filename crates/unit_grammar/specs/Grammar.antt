-- The words that every form is made of.
use Rattle.std.specs.Prelude.{◌≡◌, ◌⊎◌, ℕ, zero, suc, true, cond, List, [], ◌∷◌, ◌++◌, Option, Some, None}
use Rattle.unit_grammar.specs.Pieces.{Piece, spelling}
use Rattle.unit_grammar.specs.Signs.{Sign, passes}

-- A part of a unit, with values of the type A. N are the names of the parts that lead back to themselves, and V their values.
infixr 5 ◌⋆◌
infixr 5 ◌▹◌
infixr 4 ◌or◌
pub data Part (N : Type 0) (V : N → Type 0) : Type 0 → Type 1 where
  nothing : {A : Type 0} → A → Part N V A
  token : {A : Type 0} → Sign → (Piece → A) → Part N V A
  enclosed : Sign → Sign → Part N V (Unit {0})
  ◌▹◌ : {A : Type 0} → Sign → Part N V A → Part N V A
  ◌⋆◌ : {A B : Type 0} → Part N V A → Part N V B → Part N V (A × B)
  says : {A B : Type 0} → (List Piece → A → B) → Part N V A → Part N V B
  ◌or◌ : {A : Type 0} → Part N V A → Part N V A → Part N V A
  maybe : {A : Type 0} → Part N V A → Part N V (Option A)
  many : {A : Type 0} → Part N V A → Part N V (List A)
  at : (x : N) → Part N V (V x)

-- the texts of a part, with what each says
abbrev pub Text : Type 0 → Type 1
Text A = List Piece → A → Type 0

-- how many signs are open behind a token, where one more than `others` were open before it
abbrev pub open_behind : Sign → Sign → ℕ → Piece → ℕ
open_behind o c others t = cond (passes o t) (suc (suc others)) (cond (passes c t) others (suc others))

-- at the end of the tokens all that was open is closed, and not before
abbrev pub Closes : Sign → Sign → List Piece → ℕ → Type 0
Closes o c [] count = count ≡ 0
Closes o c (t ∷ ts) zero = ⊥
Closes o c (t ∷ ts) (suc others) = Closes o c ts (open_behind o c others t)

-- each of these in order
abbrev pub Are : {A : Type 0} → Text A → Text (List A)
Are P ts [] = ts ≡ []
Are P ts (x ∷ xs) = (front : List Piece) × (back : List Piece) × P front x × Are P back xs × (ts ≡ front ++ back)

-- nothing, or this
abbrev pub Perhaps : {A : Type 0} → Text A → Text (Option A)
Perhaps P ts None = ts ≡ []
Perhaps P ts (Some x) = P ts x

-- The tokens are a text of the part and say the value, where E are the texts of the named parts.
abbrev pub Is : {N : Type 0} {V : N → Type 0} → ((x : N) → Text (V x)) → {A : Type 0} → Part N V A → Text A
Is E (nothing x) ts a = (ts ≡ []) × (a ≡ x)
Is E (token s f) ts a = (t : Piece) × (ts ≡ t ∷ []) × (passes s t ≡ true) × (a ≡ f t)
Is E (enclosed o c) ts a = (t : Piece) × (back : List Piece) × (passes o t ≡ true) × Closes o c back 1 × (ts ≡ t ∷ back)
Is E (s ▹ p) ts a = (t : Piece) × (back : List Piece) × (passes s t ≡ true) × Is E p back a × (ts ≡ t ∷ back)
Is E (p ⋆ q) ts c = (front : List Piece) × (back : List Piece) × Is E p front c.0 × Is E q back c.1 × (ts ≡ front ++ back)
Is E (says f p) ts b = (a : _) × Is E p ts a × (b ≡ f ts a)
Is E (p or q) ts a = Is E p ts a ⊎ Is E q ts a
Is E (maybe p) ts o = Perhaps (Is E p) ts o
Is E (many p) ts xs = Are (Is E p) ts xs
Is E (at x) ts a = E x ts a

-- Some text of the part begins so that a named part is opened too deep, where O tells it of the named parts.
abbrev pub Opens : {N : Type 0} {V : N → Type 0} → ((x : N) → Text (V x)) → ((x : N) → List Piece → Type 0) →
    {A : Type 0} → Part N V A → List Piece → Type 0
Opens E O (nothing x) ts = ⊥
Opens E O (token s f) ts = ⊥
Opens E O (enclosed o c) ts = ⊥
Opens E O (s ▹ p) ts = (t : Piece) × (back : List Piece) × (passes s t ≡ true) × Opens E O p back × (ts ≡ t ∷ back)
Opens E O (p ⋆ q) ts =
    Opens E O p ts ⊎ ((front : List Piece) × (back : List Piece) × (a : _) × Is E p front a × Opens E O q back × (ts ≡ front ++ back))
Opens E O (says f p) ts = Opens E O p ts
Opens E O (p or q) ts = Opens E O p ts ⊎ Opens E O q ts
Opens E O (maybe p) ts = Opens E O p ts
Opens E O (many p) ts =
    (front : List Piece) × (back : List Piece) × (xs : _) × Are (Is E p) front xs × Opens E O p back × (ts ≡ front ++ back)
Opens E O (at x) ts = O x ts

-- a token that says nothing
abbrev pub sign : {N : Type 0} {V : N → Type 0} → Sign → Part N V (Unit {0})
sign s = s ▹ nothing tt

abbrev pub mapped : {N : Type 0} {V : N → Type 0} {A B : Type 0} → (A → B) → Part N V A → Part N V B
mapped f p = says (λ _ a. f a) p

-- a text of the part, then a token that says nothing
infixr 5 ◌◃◌
abbrev pub ◌◃◌ : {N : Type 0} {V : N → Type 0} {A : Type 0} → Part N V A → Sign → Part N V A
p ◃ s = mapped (λ x. x.0) (p ⋆ sign s)

-- the text itself, whatever it says
abbrev pub spelled : {N : Type 0} {V : N → Type 0} {A : Type 0} → Part N V A → Part N V (List ℕ)
spelled p = says (λ ts _. spelling ts) p

-- one or more with signs between them
abbrev pub some_with : {N : Type 0} {V : N → Type 0} {A : Type 0} → Sign → Part N V A → Part N V (List A)
some_with s p = mapped (λ x. x.0 ∷ x.1) (p ⋆ many (s ▹ p))

abbrev pub listed : {A : Type 0} → Option (List A) → List A
listed None = []
listed (Some xs) = xs

-- any number with signs between them
abbrev pub list_with : {N : Type 0} {V : N → Type 0} {A : Type 0} → Sign → Part N V A → Part N V (List A)
list_with s p = mapped listed (maybe (some_with s p))
