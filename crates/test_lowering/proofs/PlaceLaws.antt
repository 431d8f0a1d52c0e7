-- Facts on elements of lists, by `slice_get`.
use Rattle.std.proofs.Common.{◌≡◌, ◌≢◌, ℕ, ◌+◌, ◌<◌, ◌⊎◌, inl, inr, Bool, true, false, List, [], ◌∷◌, ◌++◌, get_or, refl, sym, ap, subst, ◌∙◌, Some, nat_eq, All, AllPairs, Contains, slice_get, zero, suc}
use Rattle.std.proofs.lemmas.Option.{get_or_from_slice_get, slice_get_within, slice_get-get_or}
use Rattle.std.specs.Cmp.Lexicographic.{pointwise, told_text}

-- two texts are equal by bytes exactly if they are equal
pub text_cases : (a b : List ℕ) → ((pointwise nat_eq a b ≡ true) × (a ≡ b)) ⊎ ((pointwise nat_eq a b ≡ false) × (a ≢ b))
text_cases a b = by_answer (pointwise nat_eq a b) refl where
  by_answer : (r : Bool) → r ≡ pointwise nat_eq a b → ((pointwise nat_eq a b ≡ true) × (a ≡ b)) ⊎ ((pointwise nat_eq a b ≡ false) × (a ≢ b))
  by_answer true e = inl (sym e, told_text a b true e)
  by_answer false e = inr (sym e, told_text a b false e)

pub pairs_at : {X : Type 0} (R : X → X → Type 0) (xs : List X) (i j : ℕ) (x y : X)
    → AllPairs R xs → i < j → slice_get xs i ≡ Some x → slice_get xs j ≡ Some y → R x y
pairs_at R xs i j x y all before at_i at_j =
    subst (λ z. R z y) (get_or_from_slice_get xs i x x at_i)
    (subst (λ z. R (get_or xs i x) z) (get_or_from_slice_get xs j y x at_j) (all i j x before (slice_get_within xs j y at_j)))

pub all_at : {X : Type 0} (P : X → Type 0) (xs : List X) (i : ℕ) (x : X) → All P xs → slice_get xs i ≡ Some x → P x
all_at P xs i x all at = subst P (get_or_from_slice_get xs i x x at) (all i x (slice_get_within xs i x at))

pub place_of : {X : Type 0} (xs : List X) (x : X) → Contains xs x → (k : ℕ) × (slice_get xs k ≡ Some x)
place_of xs x found = (found.0, slice_get-get_or xs found.0 x found.1 ∙ ap Some found.2)

pub contains_at : {X : Type 0} (xs : List X) (x : X) (k : ℕ) → slice_get xs k ≡ Some x → Contains xs x
contains_at xs x k at = (k, slice_get_within xs k x at, get_or_from_slice_get xs k x x at)

pub slice_get-append_left : {X : Type 0} (xs ys : List X) (k : ℕ) (x : X) → slice_get xs k ≡ Some x → slice_get (xs ++ ys) k ≡ Some x
slice_get-append_left [] ys k x at = cc
slice_get-append_left (a ∷ xs) ys zero x at = at
slice_get-append_left (a ∷ xs) ys (suc k) x at = slice_get-append_left xs ys k x at

-- the one element of a list of one
pub only : {X : Type 0} (x y : X) → Contains (x ∷ []) y → x ≡ y
only x y found = let at = place_of (x ∷ []) y found in of_place at.0 at.1 where
  of_place : (k : ℕ) → slice_get (x ∷ []) k ≡ Some y → x ≡ y
  of_place zero at = cc
  of_place (suc k) at = cc
