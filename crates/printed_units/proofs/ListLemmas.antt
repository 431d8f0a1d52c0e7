-- Lists: what is made of each item, and what holds of all.
use Rattle.std.proofs.Common.{◌≡◌, refl, ◌∙◌, ap, List, [], ◌∷◌, ◌++◌, map}
use Rattle.std.specs.Prelude.{flat_map}
use Rattle.std.specs.List.{AllByRecursion, AllZip}
use Rattle.std.proofs.lemmas.List.{map-append}

pub map_map : {X Y Z : Type 0} (f : Y → Z) (g : X → Y) (xs : List X) → map f (map g xs) ≡ map (λ x. f (g x)) xs
map_map f g [] = refl
map_map f g (x ∷ xs) = ap (λ ys. f (g x) ∷ ys) (map_map f g xs)

pub map_flat : {X Y Z : Type 0} (f : Y → Z) (g : X → List Y) (h : X → List Z) → ((x : X) → map f (g x) ≡ h x) → (xs : List X)
    → map f (flat_map g xs) ≡ flat_map h xs
map_flat f g h each [] = refl
map_flat f g h each (x ∷ xs) = map-append f (g x) (flat_map g xs) ∙ (λ i. each x i ++ map_flat f g h each xs i)

pub all_joined : {X : Type 0} (P : X → Type 0) (xs ys : List X) → AllByRecursion P xs → AllByRecursion P ys → AllByRecursion P (xs ++ ys)
all_joined P [] ys all others = others
all_joined P (x ∷ xs) ys all others = (all.0, all_joined P xs ys all.1 others)

pub all_of : {X : Type 0} (P Q : X → Type 0) → ((x : X) → P x → Q x) → (xs : List X) → AllByRecursion P xs → AllByRecursion Q xs
all_of P Q so [] all = tt
all_of P Q so (x ∷ xs) all = (so x all.0, all_of P Q so xs all.1)

pub all_both : {X : Type 0} (P Q : X → Type 0) (xs : List X) → AllByRecursion P xs → AllByRecursion Q xs → AllByRecursion (λ x. P x × Q x) xs
all_both P Q [] all others = tt
all_both P Q (x ∷ xs) all others = ((all.0, others.0), all_both P Q xs all.1 others.1)

pub all_flat : {X Y : Type 0} (P : Y → Type 0) (f : X → List Y) → ((x : X) → AllByRecursion P (f x)) → (xs : List X)
    → AllByRecursion P (flat_map f xs)
all_flat P f each [] = tt
all_flat P f each (x ∷ xs) = all_joined P (f x) (flat_map f xs) (each x) (all_flat P f each xs)

-- what is made alike of each item, and what holds of what is made of each
pub map_same : {X Y : Type 0} (f g : X → Y) (P : X → Type 0) → ((x : X) → P x → f x ≡ g x) → (xs : List X) → AllByRecursion P xs
    → map f xs ≡ map g xs
map_same f g P same [] all = refl
map_same f g P same (x ∷ xs) all = λ i. same x all.0 i ∷ map_same f g P same xs all.1 i

pub all_zipped : {X Y Z : Type 0} (P : X → Type 0) (Q : Y → Z → Type 0) (f : X → Y) (g : X → Z) → ((x : X) → P x → Q (f x) (g x))
    → (xs : List X) → AllByRecursion P xs → AllZip Q (map f xs) (map g xs)
all_zipped P Q f g so [] all = tt
all_zipped P Q f g so (x ∷ xs) all = (so x all.0, all_zipped P Q f g so xs all.1)
