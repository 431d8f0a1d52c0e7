-- What a list keeps where each new item is added once.
use Rattle.std.proofs.Common.{◌≡◌, ◌∙◌, suc, Bool, true, false, ◌||◌, List, [], ◌∷◌, ◌++◌, refl, sym, ap, arith, ◌≢◌}
use Rattle.std.specs.Prelude.{if◌then◌else◌}
use Rattle.std.specs.List.{list_any, Contains, AllPairs}
use Rattle.std.proofs.lemmas.List.Folds.{list_any-append, list_any_at}
use Rattle.std.proofs.lemmas.List.{get_or_default}
use Rattle.std.proofs.lemmas.List.Quantifiers.{all_pairs_push}
use Rattle.type_metadata.specs.Marks.{with_new, with_each_new, distinct}

pub or_right : (b : Bool) → (b || false) ≡ b
or_right true = refl
or_right false = refl

or_assoc : (a b c : Bool) → ((a || b) || c) ≡ (a || (b || c))
or_assoc true b c = refl
or_assoc false b c = refl

or_true : (b : Bool) → (b || true) ≡ true
or_true true = refl
or_true false = refl

-- the item that the test looks for is the one that passes it
module _ {X : Type 0} (same : X → X → Bool) (one : (x y : X) → same x y ≡ true → x ≡ y) (itself : (x y : X) → x ≡ y → same x y ≡ true) where
  pub any_contains : (xs : List X) (x : X) → Contains xs x → list_any (same x) xs ≡ true
  any_contains xs x at = list_any_at (same x) xs at.0 x at.1 (itself x _ (sym at.2))

  contains_head : (y : X) (ys : List X) (x : X) (b : Bool) → same x y ≡ b → (b || list_any (same x) ys) ≡ true →
      (list_any (same x) ys ≡ true → Contains ys x) → Contains (y ∷ ys) x
  contains_head y ys x true here any rest = (0, omega arith, sym (one x y here))
  contains_head y ys x false here any rest = let at = rest any in (suc at.0, omega (arith, at.1), at.2)

  pub contains_any : (xs : List X) (x : X) → list_any (same x) xs ≡ true → Contains xs x
  contains_any [] x is = cc
  contains_any (y ∷ ys) x is = contains_head y ys x (same x y) refl is (contains_any ys x)

  seen_test : (p : X → Bool) (seen : List X) (x : X) → Contains seen x → (b : Bool) → p x ≡ b → (list_any p seen || b) ≡ list_any p seen
  seen_test p seen x found false here = or_right _
  seen_test p seen x found true here = or_true (list_any p seen) ∙ sym (list_any_at p seen found.0 x found.1 (ap p found.2 ∙ here))

  pub any_seen : (p : X → Bool) (seen : List X) (x : X) → list_any (same x) seen ≡ true → (list_any p seen || p x) ≡ list_any p seen
  any_seen p seen x is = seen_test p seen x (contains_any seen x is) (p x) refl

  new_test : (p : X → Bool) (seen : List X) (x : X) (b : Bool) → list_any (same x) seen ≡ b →
      list_any p (if b then seen else seen ++ x ∷ []) ≡ (list_any p seen || p x)
  new_test p seen x true here = sym (any_seen p seen x here)
  new_test p seen x false here = list_any-append p seen (x ∷ []) ∙ ap (λ b. list_any p seen || b) (or_right (p x))

  pub any_new : (p : X → Bool) (seen : List X) (x : X) → list_any p (with_new same seen x) ≡ (list_any p seen || p x)
  any_new p seen x = new_test p seen x (list_any (same x) seen) refl

  pub any_each : (p : X → Bool) (seen xs : List X) → list_any p (with_each_new same seen xs) ≡ (list_any p seen || list_any p xs)
  any_each p seen [] = sym (or_right _)
  any_each p seen (x ∷ xs) = any_each p (with_new same seen x) xs ∙ ap (λ b. b || list_any p xs) (any_new p seen x)
      ∙ or_assoc (list_any p seen) (p x) (list_any p xs)

  pub any_distinct : (p : X → Bool) (xs : List X) → list_any p (distinct same xs) ≡ list_any p xs
  any_distinct p xs = any_each p [] xs

  -- no two are one
  apart_test : (seen : List X) (x : X) (b : Bool) → list_any (same x) seen ≡ b → AllPairs (λ y z. y ≢ z) seen →
      AllPairs (λ y z. y ≢ z) (if b then seen else seen ++ x ∷ [])
  apart_test seen x true here before = before
  apart_test seen x false here before = all_pairs_push (λ y z. y ≢ z) seen x before
      (λ k d inside alike. let met = any_contains seen x (k, inside, get_or_default seen k x d inside ∙ alike) in cc)

  pub apart_each : (seen xs : List X) → AllPairs (λ y z. y ≢ z) seen → AllPairs (λ y z. y ≢ z) (with_each_new same seen xs)
  apart_each seen [] before = before
  apart_each seen (x ∷ xs) before = apart_each (with_new same seen x) xs (apart_test seen x (list_any (same x) seen) refl before)
