-- Facts of each item of a list, as far as a loop has come, and lists that are one image of two lists.
use Rattle.std.proofs.Common.{◌≡◌, ℕ, ◌<◌, ◌≤◌, ◌+◌, zero, suc, List, [], ◌∷◌, ◌++◌, ◌≢◌, length, map, get_or, take, subst, sym, ap, ◌∙◌, refl, IsTrue, ◌↔◌, true, false, arith}
use Rattle.std.specs.List.{All, Contains}
use Rattle.std.proofs.Math.ListN.{get_or-map}
use Rattle.std.proofs.lemmas.List.{length-map, take_all, take_more, get_or_default}
use Rattle.std.proofs.lemmas.List.Quantifiers.{all_pairs_push}
use Rattle.std.proofs.lemmas.List.Elements.{All-more, All-head, All-tail}
use Rattle.thin_files.specs.Thin.{AreDistinct}

pub all_more : {X : Type 0} (P : X → Type 0) (xs : List X) (i : ℕ) (x : X) → i < length xs → x ≡ get_or xs i x →
    All P (take i xs) → P x → All P (take (i + 1) xs)
all_more P xs i x within at before here = All-more P xs i x within before (subst P at here)

pub all_end : {X : Type 0} (P : X → Type 0) (xs : List X) (i : ℕ) → length xs ≤ i → All P (take i xs) → All P xs
all_end P xs i past before = subst (All P) (take_all i xs past) before

pub all_items : {X : Type 0} (P : X → Type 0) (xs : List X) (i : ℕ) → length xs ≤ i → All P (take i xs) → IsTrue true ↔ All P xs
all_items P xs i past before = (λ holds. all_end P xs i past before, λ all. refl)

-- an item that doesn't meet a fact
pub not_all : {X : Type 0} (P : X → Type 0) (xs : List X) (i : ℕ) (x : X) → i < length xs → x ≡ get_or xs i x → (P x → ⊥) →
    IsTrue false ↔ All P xs
not_all P xs i x within at fails = (λ holds. cc, λ all. absurd (fails (subst P (sym at) (all i x within))))

-- distinct texts, and one more that is not among them
pub distinct_more : (xs : List (List ℕ)) (i : ℕ) (x : List ℕ) → i < length xs → x ≡ get_or xs i x → AreDistinct (take i xs) →
    ¬ Contains (take i xs) x → AreDistinct (take (i + 1) xs)
distinct_more xs i x within at before new =
    let pushed : AreDistinct (take i xs ++ x ∷ []) = all_pairs_push (λ one other. one ≢ other) (take i xs) x before
    (λ k d inside same. new (k, inside, get_or_default (take i xs) k x d inside ∙ same)) in
    subst AreDistinct (sym (take_more xs i x within ∙ ap (λ last. take i xs ++ last ∷ []) (sym at))) pushed

pub distinct_items : (xs : List (List ℕ)) (i : ℕ) → length xs ≤ i → AreDistinct (take i xs) → IsTrue true ↔ AreDistinct xs
distinct_items xs i past before = (λ holds. subst AreDistinct (take_all i xs past) before, λ all. refl)

-- no list has the image of one with an item that has no counterpart
pub no_match : {A B C : Type 0} (f : A → C) (g : B → C) (xs : List A) (k : ℕ) (x : A) → k < length xs → x ≡ get_or xs k x →
    ((y : B) → f x ≡ g y → ⊥) → (ys : List B) → map f xs ≡ map g ys → ⊥
no_match f g [] k x within at none ys same = absurd (omega (arith, within))
no_match f g (a ∷ xs) zero x within at none [] same = cc
no_match f g (a ∷ xs) zero x within at none (y ∷ ys) same = none y cc
no_match f g (a ∷ xs) (suc k) x within at none [] same = cc
no_match f g (a ∷ xs) (suc k) x within at none (y ∷ ys) same = no_match f g xs k x (omega (arith, within)) at none ys cc

-- the same, where the counterpart has to meet a fact that all items of the other list meet
pub no_match_among : {A B C : Type 0} (f : A → C) (g : B → C) (P : B → Type 0) (xs : List A) (k : ℕ) (x : A) → k < length xs →
    x ≡ get_or xs k x → ((y : B) → f x ≡ g y → P y → ⊥) → (ys : List B) → map f xs ≡ map g ys → All P ys → ⊥
no_match_among f g P [] k x within at none ys same meets = absurd (omega (arith, within))
no_match_among f g P (a ∷ xs) zero x within at none [] same meets = cc
no_match_among f g P (a ∷ xs) zero x within at none (y ∷ ys) same meets = none y (cc) (All-head P y ys meets)
no_match_among f g P (a ∷ xs) (suc k) x within at none [] same meets = cc
no_match_among f g P (a ∷ xs) (suc k) x within at none (y ∷ ys) same meets =
    no_match_among f g P xs k x (omega (arith, within)) at none ys (cc) (All-tail P y ys meets)

pub contains_map : {A B : Type 0} (f : A → B) (xs : List A) (x : A) → Contains xs x → Contains (map f xs) (f x)
contains_map f xs x (k, within, at) = (k, rw length-map within, get_or-map f xs k x ∙ ap f at)
