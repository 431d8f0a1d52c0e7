-- The computing side of the parts, on lists of tokens: what the code answers.
use Rattle.std.specs.Prelude.{ℕ, zero, suc, ◌-◌, cond, List, [], ◌∷◌, ◌++◌, take, length, Option, Some, None}
use Rattle.unit_grammar.specs.Pieces.{Piece}
use Rattle.unit_grammar.specs.Signs.{Sign, passes}
use Rattle.unit_grammar.specs.Grammar.{Part, open_behind, nothing, token, enclosed, ◌▹◌, ◌⋆◌, says, ◌or◌, maybe, many, at}

-- the value of the text in front with the tokens behind it, that none begins there, or that one is opened too deep
pub data Read (A : Type 0) : Type 0 where
  found : A → List Piece → Read A
  absent : Read A
  deep : Read A

abbrev pub Reader : Type 0 → Type 0
Reader A = List Piece → Read A

abbrev pub then_read : {A B : Type 0} → Read A → (A → List Piece → Read B) → Read B
then_read (found a rest) f = f a rest
then_read absent f = absent
then_read deep f = deep

abbrev pub else_read : {A : Type 0} → Read A → Read A → Read A
else_read (found a rest) other = found a rest
else_read absent other = other
else_read deep other = deep

-- a token that passes
abbrev pub piece_read : Sign → Reader Piece
piece_read s [] = absent
piece_read s (t ∷ ts) = cond (passes s t) (found t ts) absent

-- what stands behind one
abbrev pub past : Sign → Reader (Unit {0})
past s [] = absent
past s (t ∷ ts) = cond (passes s t) (found tt ts) absent

abbrev pub token_read : {A : Type 0} → Sign → (Piece → A) → Reader A
token_read s f ts = then_read (piece_read s ts) (λ t rest. found (f t) rest)

abbrev pub sign_read : {A : Type 0} → Sign → Reader A → Reader A
sign_read s p ts = then_read (past s ts) (λ _ rest. p rest)

-- up to the token behind which nothing is open any more
abbrev pub closing_read : Sign → Sign → List Piece → ℕ → Read (Unit {0})
closing_read o c [] zero = found tt []
closing_read o c [] (suc others) = absent
closing_read o c (t ∷ ts) zero = found tt (t ∷ ts)
closing_read o c (t ∷ ts) (suc others) = closing_read o c ts (open_behind o c others t)

abbrev pub enclosed_read : Sign → Sign → Reader (Unit {0})
enclosed_read o c ts = then_read (past o ts) (λ _ rest. closing_read o c rest 1)

abbrev pub maybe_read : {A : Type 0} → Read A → List Piece → Read (Option A)
maybe_read (found a rest) ts = found (Some a) rest
maybe_read absent ts = found None ts
maybe_read deep ts = deep

-- one more behind those that are given, then the others
abbrev pub many_on : {A : Type 0} → Read A → List A → List Piece → (List A → Reader (List A)) → Read (List A)
many_on (found a rest) given ts others = others (given ++ a ∷ []) rest
many_on absent given ts others = found given ts
many_on deep given ts others = deep

-- at most so many behind those that are given
abbrev pub many_read : {A : Type 0} → ℕ → Reader A → List A → Reader (List A)
many_read zero p given ts = found given ts
many_read (suc n) p given ts = many_on (p ts) given ts (many_read n p)

-- the first of a list, and those behind it
abbrev pub first_on : {A : Type 0} → Read A → List Piece → (A → List Piece → Read (List A)) → Read (List A)
first_on (found a rest) ts others = others a rest
first_on absent ts others = found [] ts
first_on deep ts others = deep

-- any number with signs between them
abbrev pub list_read : {A : Type 0} → Sign → Reader A → Reader (List A)
list_read s p ts = first_on (p ts) ts (λ a rest. many_read (length rest) (sign_read s p) (a ∷ []) rest)

-- the tokens in front of the rest
abbrev pub before : List Piece → List Piece → List Piece
before ts rest = take (length ts - length rest) ts

abbrev pub read : {N : Type 0} {V : N → Type 0} → ((x : N) → Reader (V x)) → {A : Type 0} → Part N V A → Reader A
read r (nothing x) ts = found x ts
read r (token s f) ts = token_read s f ts
read r (enclosed o c) ts = enclosed_read o c ts
read r (s ▹ p) ts = sign_read s (read r p) ts
read r (p ⋆ q) ts = then_read (read r p ts) (λ a rest. then_read (read r q rest) (λ b last. found (a, b) last))
read r (says f p) ts = then_read (read r p ts) (λ a rest. found (f (before ts rest) a) rest)
read r (p or q) ts = else_read (read r p ts) (read r q ts)
read r (maybe p) ts = maybe_read (read r p ts) ts
read r (many p) ts = many_read (length ts) (read r p) [] ts
read r (at x) ts = r x ts
