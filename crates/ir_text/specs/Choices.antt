-- Texts of two sorts, of which the first come before the others.
use Rattle.std.specs.Prelude.{◌≡◌, ◌⊎◌, cond, nat_lt, List, [], length}
use Rattle.unit_grammar.specs.Pieces.{Piece}
use Rattle.unit_grammar.specs.Grammar.{Text}
use Rattle.unit_grammar.specs.Readers.{Read, found, absent, deep, Reader}
use Rattle.unit_grammar.specs.Longest.{IsLongest, NoneBegins}

-- tokens of the texts P, or tokens of the texts R that are of none of the texts Q
abbrev pub Else : {A : Type 0} → (List Piece → A → Type 0) → (List Piece → A → Type 0) → (List Piece → A → Type 0) → List Piece → A → Type 0
Else P Q R ts a = P ts a ⊎ (R ts a × ((b : _) → Q ts b → ⊥))

-- the longer of two texts, and the first where they are as long
abbrev pub longer : {A : Type 0} → A → List Piece → Read A → Read A
longer a rest (found b after) = cond (nat_lt (length after) (length rest)) (found b after) (found a rest)
longer a rest absent = found a rest
longer a rest deep = found a rest

abbrev pub prefer : {A : Type 0} → Read A → Read A → Read A
prefer (found a rest) other = longer a rest other
prefer absent other = other
prefer deep other = deep

-- none begins there, also where one is opened too deep
abbrev pub flat : {A : Type 0} → Read A → Read A
flat (found a rest) = found a rest
flat absent = absent
flat deep = absent

-- A reader of the texts P, which are some of the texts Q: it finds the longest of all, and tells where one is opened too
-- deep, which O tells of tokens.
pub record IsChosen {A : Type 0} (P Q : List Piece → A → Type 0) (O : List Piece → Type 0) (p : List Piece → Read A) : Type 0 where
  pub some : (a : A) → Q [] a → ⊥
  pub within : (ts : List Piece) (a : A) → P ts a → Q ts a
  pub longest : (ts : List Piece) (a : A) (rest : List Piece) → p ts ≡ found a rest → IsLongest P Q ts a rest
  pub none : (ts : List Piece) → p ts ≡ absent → NoneBegins Q ts
  pub opened : (ts : List Piece) → p ts ≡ deep → O ts
  pub deepens : (ts : List Piece) → O ts → p ts ≡ deep
