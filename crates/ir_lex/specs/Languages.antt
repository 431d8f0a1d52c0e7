-- Languages, each a fact about a list of bytes, and what makes larger ones of smaller.
use Rattle.std.specs.Prelude.{◌≡◌, ℕ, Bool, ◌==◌, ◌⊎◌, IsTrue, List, [], ◌∷◌, ◌++◌}
use Rattle.std.specs.List.{list_all}

-- one byte that passes
abbrev pub IsOne : (ℕ → Bool) → List ℕ → Type 0
IsOne p [] = ⊥
IsOne p (b ∷ []) = IsTrue (p b)
IsOne p (b ∷ c ∷ bs) = ⊥

-- this byte
abbrev pub IsByte : ℕ → List ℕ → Type 0
IsByte c = IsOne (λ b. b == c)

-- any number of bytes that pass
abbrev pub IsMany : (ℕ → Bool) → List ℕ → Type 0
IsMany p bytes = IsTrue (list_all p bytes)

-- a text of P, and behind it one of Q
pub record IsThen (P Q : List ℕ → Type 0) (bytes : List ℕ) : Type 0 where
  pub front : List ℕ
  pub back : List ℕ
  pub first : P front
  pub second : Q back
  pub joined : bytes ≡ front ++ back

-- a text of P or one of Q
abbrev pub IsEither : (List ℕ → Type 0) → (List ℕ → Type 0) → List ℕ → Type 0
IsEither P Q bytes = P bytes ⊎ Q bytes

-- a text of P, or nothing
abbrev pub IsMaybe : (List ℕ → Type 0) → List ℕ → Type 0
IsMaybe P = IsEither (λ bytes. bytes ≡ []) P

-- a byte that passes the first test, and any number that pass the second
abbrev pub IsRun : (ℕ → Bool) → (ℕ → Bool) → List ℕ → Type 0
IsRun p q = IsThen (IsOne p) (IsMany q)
