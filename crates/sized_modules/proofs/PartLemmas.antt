-- What holds of each value that a part of a unit says, where something holds of what its own parts say.
use Rattle.std.proofs.Common.{◌≡◌, subst, ◌++◌, inl, inr, Bool, true, false, cond, List, [], ◌∷◌, All, Option, Some, None}
use Rattle.std.specs.Prelude.{IfSome}
use Rattle.std.specs.List.{AllByRecursion}
use Rattle.std.proofs.lemmas.List.Elements.{All-nil, All-cons}
use Rattle.unit_grammar.specs.Pieces.{Piece}
use Rattle.unit_grammar.specs.Signs.{Sign}
use Rattle.unit_grammar.specs.Grammar.{Part, token, ◌▹◌, ◌⋆◌, says, ◌or◌, maybe, many, Text, Is, Are, mapped, listed, some_with, list_with}

-- P holds of what each text of the part says whose tokens are so, where E are the texts of the named parts
pub record Gives {N : Type 0} {V : N → Type 0} (IsSo : Piece → Type 0) (E : (x : N) → Text (V x)) {A : Type 0} (p : Part N V A) (P : A → Type 0) : Type 0 where
  pub each : (ts : List Piece) (a : A) → AllByRecursion IsSo ts → Is E p ts a → P a

-- any token
abbrev pub Anything : Piece → Type 0
Anything t = Unit {0}

pub anyhow : (ts : List Piece) → AllByRecursion Anything ts
anyhow [] = tt
anyhow (t ∷ ts) = (tt, anyhow ts)

-- what holds of all tokens holds of those in front, and of those behind

pub front_so : (IsSo : Piece → Type 0) (ts front back : List Piece) → ts ≡ front ++ back → AllByRecursion IsSo ts → AllByRecursion IsSo front
front_so IsSo ts front back splits so = go front (subst (AllByRecursion IsSo) splits so) where
  go : (front : List Piece) → AllByRecursion IsSo (front ++ back) → AllByRecursion IsSo front
  go [] so = tt
  go (t ∷ front) so = (so.0, go front so.1)

pub back_so : (IsSo : Piece → Type 0) (ts front back : List Piece) → ts ≡ front ++ back → AllByRecursion IsSo ts → AllByRecursion IsSo back
back_so IsSo ts front back splits so = go front (subst (AllByRecursion IsSo) splits so) where
  go : (front : List Piece) → AllByRecursion IsSo (front ++ back) → AllByRecursion IsSo back
  go [] so = so
  go (t ∷ front) so = go front so.1

token_so : (IsSo : Piece → Type 0) (ts : List Piece) (t : Piece) (back : List Piece) → ts ≡ t ∷ back → AllByRecursion IsSo ts → IsSo t
token_so IsSo ts t back splits so = (subst (AllByRecursion IsSo) splits so).0

behind_so : (IsSo : Piece → Type 0) (ts : List Piece) (t : Piece) (back : List Piece) → ts ≡ t ∷ back → AllByRecursion IsSo ts → AllByRecursion IsSo back
behind_so IsSo ts t back splits so = (subst (AllByRecursion IsSo) splits so).1

-- what holds of both holds of the one that is chosen
pub cond_has : {A : Type 0} (P : A → Type 0) (b : Bool) (x y : A) → P x → P y → P (cond b x y)
cond_has P true x y first second = first
cond_has P false x y first second = second

module _ {N : Type 0} {V : N → Type 0} {IsSo : Piece → Type 0} {E : (x : N) → Text (V x)} where
  -- one lemma for each word of a part

  pub token_gives : {A : Type 0} {s : Sign} {f : Piece → A} {P : A → Type 0} → ((t : Piece) → IsSo t → P (f t)) → Gives IsSo E (token s f) P
  token_gives of = record { each = λ ts a so (t, is, passed, stands). rw stands (of t (token_so IsSo ts t [] is so)) }

  pub skip_gives : {A : Type 0} {s : Sign} {p : Part N V A} {P : A → Type 0} → Gives IsSo E p P → Gives IsSo E (s ▹ p) P
  skip_gives of = record { each = λ ts a so (t, back, passed, is, splits). of.each back a (behind_so IsSo ts t back splits so) is }

  pub both_give : {A B : Type 0} {p : Part N V A} {q : Part N V B} {P : A → Type 0} {Q : B → Type 0} → Gives IsSo E p P → Gives IsSo E q Q →
      Gives IsSo E (p ⋆ q) (λ x. P x.0 × Q x.1)
  both_give of then = record { each = λ ts x so (front, back, is, next, splits). (of.each front x.0 (front_so IsSo ts front back splits so) is, then.each back x.1 (back_so IsSo ts front back splits so) next) }

  pub first_gives : {A B : Type 0} {p : Part N V A} {q : Part N V B} {P : A → Type 0} → Gives IsSo E p P → Gives IsSo E (p ⋆ q) (λ x. P x.0)
  first_gives of = record { each = λ ts x so (front, back, is, next, splits). of.each front x.0 (front_so IsSo ts front back splits so) is }

  pub second_gives : {A B : Type 0} {p : Part N V A} {q : Part N V B} {Q : B → Type 0} → Gives IsSo E q Q → Gives IsSo E (p ⋆ q) (λ x. Q x.1)
  second_gives of = record { each = λ ts x so (front, back, is, next, splits). of.each back x.1 (back_so IsSo ts front back splits so) next }

  -- whatever the text of the part says
  pub always_gives : {A B : Type 0} {f : List Piece → A → B} {p : Part N V A} {P : B → Type 0} → ((ts : List Piece) (a : A) → P (f ts a)) →
      Gives IsSo E (says f p) P
  always_gives of = record { each = λ ts b so (a, is, stands). rw stands (of ts a) }

  pub says_gives : {A B : Type 0} (P : A → Type 0) {f : List Piece → A → B} {p : Part N V A} {Q : B → Type 0} → Gives IsSo E p P →
      ((ts : List Piece) (a : A) → P a → Q (f ts a)) → Gives IsSo E (says f p) Q
  says_gives P of then = record { each = λ ts b so (a, is, stands). rw stands (then ts a (of.each ts a so is)) }

  -- a text of the first part, and one of the second whose value is dropped
  pub before_gives : {A B : Type 0} {p : Part N V A} {q : Part N V B} {P : A → Type 0} → Gives IsSo E p P → Gives IsSo E (mapped (λ x. x.0) (p ⋆ q)) P
  before_gives {P = P} of = says_gives (λ x. P x.0) (first_gives of) (λ ts x has. has)

  pub or_gives : {A : Type 0} {p q : Part N V A} {P : A → Type 0} → Gives IsSo E p P → Gives IsSo E q P → Gives IsSo E (p or q) P
  or_gives of other = record { each = λ ts a so is. elim is [ inl here ↦ of.each ts a so here | inr there ↦ other.each ts a so there ] }

  pub maybe_gives : {A : Type 0} {p : Part N V A} {P : A → Type 0} → Gives IsSo E p P → Gives IsSo E (maybe p) (λ o. IfSome o P)
  maybe_gives {A} {p} {P} of = record { each = go }
    where
      go : (ts : List Piece) (o : Option A) → AllByRecursion IsSo ts → Is E (maybe p) ts o → IfSome o P
      go ts None so is = tt
      go ts (Some a) so is = of.each ts a so is

  pub many_give : {A : Type 0} {p : Part N V A} {P : A → Type 0} → Gives IsSo E p P → Gives IsSo E (many p) (All P)
  many_give {A} {p} {P} of = record { each = go }
    where
      go : (ts : List Piece) (xs : List A) → AllByRecursion IsSo ts → Are (Is E p) ts xs → All P xs
      go ts [] so is = All-nil P
      go ts (x ∷ xs) so (front, back, is, others, splits) = All-cons P x xs (of.each front x (front_so IsSo ts front back splits so) is) (go back xs (back_so IsSo ts front back splits so) others)

  -- lists with signs between their values

  pub some_give : {A : Type 0} {s : Sign} {p : Part N V A} {P : A → Type 0} → Gives IsSo E p P → Gives IsSo E (some_with s p) (All P)
  some_give {P = P} of =
      says_gives (λ x. P x.0 × All P x.1) (both_give of (many_give (skip_gives of))) (λ ts x has. All-cons P x.0 x.1 has.0 has.1)

  pub list_gives : {A : Type 0} {s : Sign} {p : Part N V A} {P : A → Type 0} → Gives IsSo E p P → Gives IsSo E (list_with s p) (All P)
  list_gives {A} {P = P} of = says_gives (λ o. IfSome o (All P)) (maybe_gives (some_give of)) (λ ts o has. all_listed o has)
    where
      all_listed : (o : Option (List A)) → IfSome o (All P) → All P (listed o)
      all_listed None has = All-nil P
      all_listed (Some xs) has = has
