-- Lists in which something is, the two parts of a list by a test, and names that are apart.
use Rattle.std.proofs.Common.{◌≡◌, refl, ◌∙◌, ap, sym, subst, true≢false, ℕ, nat_eq, Bool, true, false, not, cond, ◌&&◌, ◌||◌, List, [], ◌∷◌, ◌++◌, map, filter, arith}
use Rattle.std.specs.List.{list_any, AllByRecursion}
use Rattle.std.specs.Str.{bytes_eq}
use Rattle.std.specs.Cmp.Lexicographic.{bytes_decides}
use Rattle.std.proofs.lemmas.List.{map-append}
use Rattle.std.proofs.lemmas.List.Folds.{list_any-append}
use Rattle.unit_grammar.proofs.BoolLemmas.{or_first, or_second, or_neither}
use Rattle.printed_modules.specs.Printed.{AreApart}

-- texts

pub same_text : (xs ys : List ℕ) → bytes_eq xs ys ≡ true → xs ≡ ys
same_text xs ys is = (bytes_decides xs ys).0 is

pub own_text : (xs : List ℕ) → bytes_eq xs xs ≡ true
own_text xs = (bytes_decides xs xs).1 refl

pub turned : (xs ys : List ℕ) → bytes_eq xs ys ≡ bytes_eq ys xs
turned [] [] = refl
turned [] (y ∷ ys) = refl
turned (x ∷ xs) [] = refl
turned (x ∷ xs) (y ∷ ys) = λ i. nat_turned x y i && turned xs ys i
  where
    nat_turned : (n m : ℕ) → nat_eq n m ≡ nat_eq m n
    nat_turned n m = grind arith

-- what is in a list

pub any_mapped : {X Y : Type 0} (p : Y → Bool) (f : X → Y) (xs : List X) → list_any p (map f xs) ≡ list_any (λ x. p (f x)) xs
any_mapped p f [] = refl
any_mapped p f (x ∷ xs) = ap (λ b. p (f x) || b) (any_mapped p f xs)

-- what follows from each item that passes follows where one does
pub any_then : {X Q : Type 0} (p : X → Bool) (xs : List X) → AllByRecursion (λ x. p x ≡ true → Q) xs → list_any p xs ≡ true → Q
any_then p [] all some = absurd (true≢false (sym some))
any_then {X} {Q} p (x ∷ xs) all some =
    elim (p x) as (λ b. p x ≡ b → b || list_any p xs ≡ true → Q) [
      | true ↦ λ here _. all.0 here
      | false ↦ λ here rest. any_then p xs all.1 rest
    ] refl some

swapped : (a b c : Bool) → a || (b || c) ≡ b || (a || c)
swapped true true c = refl
swapped true false c = refl
swapped false b c = refl

any_between : {X : Type 0} (p : X → Bool) (x : X) (xs ys : List X) → list_any p (xs ++ (x ∷ ys)) ≡ p x || list_any p (xs ++ ys)
any_between p x xs ys =
    list_any-append p xs (x ∷ ys) ∙ swapped (list_any p xs) (p x) (list_any p ys) ∙ ap (λ b. p x || b) (sym (list_any-append p xs ys))

-- the items of a list that pass a test, before those that don't
abbrev pub parted : {X : Type 0} → (X → Bool) → List X → List X
parted p xs = filter p xs ++ filter (λ x. not (p x)) xs

pub any_parted : {X : Type 0} (q p : X → Bool) (xs : List X) → list_any q (parted p xs) ≡ list_any q xs
any_parted q p [] = refl
any_parted {X} q p (x ∷ xs) =
    elim (p x) as (λ b. list_any q
    (cond b (x ∷ filter p xs) (filter p xs) ++ cond (not b) (x ∷ filter (λ y. not (p y)) xs) (filter (λ y. not (p y)) xs))
    ≡ q x || list_any q xs) [
      | true ↦ ap (λ b. q x || b) (any_parted q p xs)
      | false ↦ any_between q x (filter p xs) (filter (λ y. not (p y)) xs) ∙ ap (λ b. q x || b) (any_parted q p xs)
    ]

all_between : {X : Type 0} (P : X → Type 0) (x : X) (xs ys : List X) → P x → AllByRecursion P (xs ++ ys) → AllByRecursion P (xs ++ (x ∷ ys))
all_between P x [] ys one all = (one, all)
all_between P x (y ∷ xs) ys one all = (all.0, all_between P x xs ys one all.1)

pub all_parted : {X : Type 0} (P : X → Type 0) (p : X → Bool) (xs : List X) → AllByRecursion P xs → AllByRecursion P (parted p xs)
all_parted P p [] all = tt
all_parted P p (x ∷ xs) all =
    elim (p x) as (λ b. AllByRecursion P
    (cond b (x ∷ filter p xs) (filter p xs) ++ cond (not b) (x ∷ filter (λ y. not (p y)) xs) (filter (λ y. not (p y)) xs))) [
      | true ↦ (all.0, all_parted P p xs all.1)
      | false ↦ all_between P x (filter p xs) (filter (λ y. not (p y)) xs) all.0 (all_parted P p xs all.1)
    ]

-- names that are apart

abbrev pub Names : Type 0
Names = List (List ℕ)

abbrev pub is_in : List ℕ → Names → Bool
is_in name names = list_any (bytes_eq name) names

pub apart_joined : (xs ys : Names) → AreApart xs → AreApart ys → ((name : List ℕ) → is_in name xs ≡ true → is_in name ys ≡ false)
    → AreApart (xs ++ ys)
apart_joined [] ys one other differ = other
apart_joined (x ∷ xs) ys one other differ = (
  list_any-append (bytes_eq x) xs ys ∙ (λ i. one.0 i || differ x (or_first (bytes_eq x x) (is_in x xs) (own_text x)) i),
  apart_joined xs ys one.1 other (λ name is. differ name (or_second (bytes_eq name x) (is_in name xs) is)),
)

apart_between : (x : List ℕ) (xs ys : Names) → is_in x (xs ++ ys) ≡ false → AreApart (xs ++ ys) → AreApart (xs ++ (x ∷ ys))
apart_between x [] ys none apart = (none, apart)
apart_between x (y ∷ xs) ys none apart =
    let parts = or_neither (bytes_eq x y) (is_in x (xs ++ ys)) none in
    (any_between (bytes_eq y) x xs ys ∙ (λ i. (turned y x ∙ parts.0) i || apart.0 i), apart_between x xs ys parts.1 apart.1)

-- one name before those of the others, or between those of two parts
apart_step : {X : Type 0} (named : X → List ℕ) (x : X) (b : Bool) (passed others : List X) → is_in (named x) (map named (passed ++ others)) ≡ false
    → AreApart (map named (passed ++ others)) → AreApart (map named (cond b (x ∷ passed) passed ++ cond (not b) (x ∷ others) others))
apart_step named x true passed others none apart = (none, apart)
apart_step named x false passed others none apart =
    subst AreApart (sym (map-append named passed (x ∷ others)))
    (apart_between (named x) (map named passed) (map named others) (ap (is_in (named x)) (sym (map-append named passed others)) ∙ none)
    (subst AreApart (map-append named passed others) apart))

pub apart_parted : {X : Type 0} (named : X → List ℕ) (p : X → Bool) (xs : List X) → AreApart (map named xs) → AreApart (map named (parted p xs))
apart_parted named p [] apart = tt
apart_parted named p (x ∷ xs) apart =
    apart_step named x (p x) (filter p xs) (filter (λ y. not (p y)) xs)
    (any_mapped (bytes_eq (named x)) named (parted p xs) ∙ any_parted (λ y. bytes_eq (named x) (named y)) p xs
    ∙ sym (any_mapped (bytes_eq (named x)) named xs) ∙ apart.0) (apart_parted named p xs apart.1)
