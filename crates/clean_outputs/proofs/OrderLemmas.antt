-- A module with its declarations first.
use Rattle.std.proofs.Common.{◌≡◌, refl, ◌∙◌, ap, sym, Bool, true, false, not, cond, if◌then◌else◌, List, [], ◌∷◌, ◌++◌, filter, append-nil}
use Rattle.std.specs.Prelude.{flat_map}
use Rattle.std.specs.List.{AllByRecursion}
use Rattle.std.proofs.lemmas.Grind.{flat_map-append}
use Rattle.std.proofs.lemmas.List.Elements.{filter-append}
use Rattle.ir_values.specs.declared.modules.Func.{Func}
use Rattle.ir_values.specs.declared.modules.Module.{Module}
use Rattle.ir_print.specs.declared.intrinsics.Intrinsic.{Intrinsic}
use Rattle.ir_print.specs.ModuleText.{called_text, intrinsic_text, declared_text, defined_text}
use Rattle.ir_print.specs.Items.{var_text, table_text, declare_text, define_text}
use Rattle.printed_modules.specs.Printed.{is_declared}
use Rattle.clean_outputs.specs.Laws.{OrderIsPrinted}
use Rattle.clean_outputs.specs.Shallow.{declarations_first}
use Rattle.clean_outputs.proofs.ApartLemmas.{parted, all_parted}
use Rattle.clean_outputs.proofs.CalledLemmas.{called_parted}

-- what is made of the items that pass a test, and of those that don't
flat_kept : {X Y : Type 0} (f : X → List Y) (p : X → Bool) → ((x : X) → p x ≡ false → f x ≡ []) → (xs : List X)
    → flat_map f (filter p xs) ≡ flat_map f xs
flat_kept f p empty [] = refl
flat_kept f p empty (x ∷ xs) =
    elim (p x) as (λ b. p x ≡ b → flat_map f (cond b (x ∷ filter p xs) (filter p xs)) ≡ f x ++ flat_map f xs) [
      | true ↦ λ _. ap (λ ys. f x ++ ys) (flat_kept f p empty xs)
      | false ↦ λ other. flat_kept f p empty xs ∙ ap (λ ys. ys ++ flat_map f xs) (sym (empty x other))
    ] refl

flat_none : {X Y : Type 0} (f : X → List Y) (p : X → Bool) → ((x : X) → p x ≡ true → f x ≡ []) → (xs : List X) → flat_map f (filter p xs) ≡ []
flat_none f p empty [] = refl
flat_none f p empty (x ∷ xs) =
    elim (p x) as (λ b. p x ≡ b → flat_map f (cond b (x ∷ filter p xs) (filter p xs)) ≡ []) [
      | true ↦ λ here. λ i. empty x here i ++ flat_none f p empty xs i
      | false ↦ λ _. flat_none f p empty xs
    ] refl

was_true : (b : Bool) → not b ≡ false → b ≡ true
was_true true is = refl
was_true false is = sym is

was_false : (b : Bool) → not b ≡ true → b ≡ false
was_false true is = sym is
was_false false is = refl

-- only the first part, or only the second, makes something
flat_first : {X Y : Type 0} (f : X → List Y) (p : X → Bool) → ((x : X) → p x ≡ false → f x ≡ []) → (xs : List X)
    → flat_map f (parted p xs) ≡ flat_map f xs
flat_first f p empty xs =
    flat_map-append f (filter p xs) (filter (λ x. not (p x)) xs)
    ∙ (λ i. flat_kept f p empty xs i ++ flat_none f (λ x. not (p x)) (λ x is. empty x (was_false (p x) is)) xs i)
    ∙ append-nil (flat_map f xs)

flat_second : {X Y : Type 0} (f : X → List Y) (p : X → Bool) → ((x : X) → p x ≡ true → f x ≡ []) → (xs : List X)
    → flat_map f (parted p xs) ≡ flat_map f xs
flat_second f p empty xs =
    flat_map-append f (filter p xs) (filter (λ x. not (p x)) xs)
    ∙ (λ i. flat_none f p empty xs i ++ flat_kept f (λ x. not (p x)) (λ x is. empty x (was_true (p x) is)) xs i)

-- a function's text is that of a declaration or of a definition

undeclared : (f : Func) → is_declared f ≡ false → declared_text f ≡ []
undeclared f is = ap (λ b. if b then declare_text f else []) is

undefined : (f : Func) → is_declared f ≡ true → defined_text f ≡ []
undefined f is = ap (λ b. if b then [] else define_text f) is

same_called : (intrinsic : Intrinsic) (m : Module) → called_text (declarations_first m) intrinsic ≡ called_text m intrinsic
same_called intrinsic m = ap (λ b. if b then intrinsic_text intrinsic else []) (called_parted intrinsic m)

pub order_is_printed : OrderIsPrinted
order_is_printed m = λ i. flat_map var_text m.vars ++ flat_map table_text m.jumps
    ++ (same_called Intrinsic.Rotation m i ++ same_called Intrinsic.Trap m i ++ same_called Intrinsic.CodedTrap m i)
    ++ flat_first declared_text is_declared undeclared m.funcs i ++ flat_second defined_text is_declared undefined m.funcs i

-- a test of items that have passed it, or another

filter_twice : {X : Type 0} (p : X → Bool) (xs : List X) → filter p (filter p xs) ≡ filter p xs
filter_twice p [] = refl
filter_twice p (x ∷ xs) =
    elim (p x) as (λ b. p x ≡ b → filter p (cond b (x ∷ filter p xs) (filter p xs)) ≡ cond b (x ∷ filter p xs) (filter p xs)) [
      | true ↦ λ here. ap (λ b. cond b (x ∷ filter p (filter p xs)) (filter p (filter p xs))) here ∙ ap (λ ys. x ∷ ys) (filter_twice p xs)
      | false ↦ λ _. filter_twice p xs
    ] refl

filter_none : {X : Type 0} (p q : X → Bool) → ((x : X) → p x ≡ true → q x ≡ false) → (xs : List X) → filter q (filter p xs) ≡ []
filter_none p q other [] = refl
filter_none p q other (x ∷ xs) =
    elim (p x) as (λ b. p x ≡ b → filter q (cond b (x ∷ filter p xs) (filter p xs)) ≡ []) [
      | true ↦ λ here. ap (λ b. cond b (x ∷ filter q (filter p xs)) (filter q (filter p xs))) (other x here) ∙ filter_none p q other xs
      | false ↦ λ _. filter_none p q other xs
    ] refl

parted_again : {X : Type 0} (p : X → Bool) (xs : List X) → parted p xs ≡ parted p (parted p xs)
parted_again {X} p xs =
    let other = λ (x : X). not (p x) in
    let first = filter-append p (filter p xs) (filter other xs)
    ∙ (λ i. filter_twice p xs i ++ filter_none other p (λ x is. was_false (p x) is) xs i) ∙ append-nil (filter p xs) in
    let second = filter-append other (filter p xs) (filter other xs)
    ∙ (λ i. filter_none p other (λ x is. ap not is) xs i ++ filter_twice other xs i) in
    sym (λ i. first i ++ second i)

-- they stay first
pub ordered : (m : Module) → (declarations_first m).funcs
    ≡ filter is_declared (declarations_first m).funcs ++ filter (λ f. not (is_declared f)) (declarations_first m).funcs
ordered m = parted_again is_declared m.funcs

-- what holds of all functions holds of them in this order
pub all_ordered : (P : Func → Type 0) (m : Module) → AllByRecursion P m.funcs → AllByRecursion P (declarations_first m).funcs
all_ordered P m all = all_parted P is_declared m.funcs all
