-- Flaws that are joined in the order of the text.
use Rattle.std.proofs.Common.{◌≡◌, refl, ◌∙◌, ap, sym, ℕ, ◌+◌, ◌<◌, List, ◌∷◌, length, drop, get_or, Option, Some, None, arith, add-one, drop-cons}
use Rattle.check_names.specs.declared.flaws.Flaw.{Flaw}
use Rattle.check_names.specs.Flaws.{counted, ◌then◌, each}

counted_assoc : (f g h : Flaw) → counted (counted f g) h ≡ counted f (counted g h)
counted_assoc f g h = grind arith

pub then_assoc : (a b c : Option Flaw) → (a then b) then c ≡ a then (b then c)
then_assoc None b c = refl
then_assoc (Some f) None c = refl
then_assoc (Some f) (Some g) None = refl
then_assoc (Some f) (Some g) (Some h) = ap Some (counted_assoc f g h)

pub then_none : (a : Option Flaw) → a then None ≡ a
then_none None = refl
then_none (Some f) = refl

-- a loop over a list finds one more flaw
pub each_more : {A : Type 0} (f : A → Option Flaw) (found : Option Flaw) (xs : List A) (i : ℕ) (d : A) → i < length xs
    → (found then f (get_or xs i d)) then each f (drop (i + 1) xs) ≡ found then each f (drop i xs)
each_more f found xs i d below =
    let here : drop i xs ≡ get_or xs i d ∷ drop (i + 1) xs = rw add-one (drop-cons xs i d below) in
    then_assoc found (f (get_or xs i d)) (each f (drop (i + 1) xs)) ∙ ap (λ rest. found then each f rest) (sym here)
