-- Lemmas on the arguments of an entry.
use Rattle.std.proofs.Common.{◌≡◌, ◌≢◌, ℕ, List, [], ◌∷◌, length, true, false, refl, arith}
use Rattle.std.proofs.lemmas.Grind.{common_steps}
use Rattle.ir_values.specs.declared.types.Ty.{Ty}
use Rattle.ir_meaning.specs.Starts.{fit}

-- arguments that fit are as many as the parameters
pub fit_length : (tys : List Ty) (args : List ℕ) → fit tys args ≡ true → length tys ≡ length args
fit_length [] [] is = refl
fit_length [] (n ∷ ns) is = cc
fit_length (ty ∷ tys) [] is = cc
fit_length (ty ∷ tys) (n ∷ ns) is = let others = fit_length tys ns in grind (arith, common_steps)

pub fit_unequal : (tys : List Ty) (args : List ℕ) → (length tys ≢ length args) → fit tys args ≡ false
fit_unequal [] [] other = absurd (other refl)
fit_unequal [] (n ∷ ns) other = refl
fit_unequal (ty ∷ tys) [] other = refl
fit_unequal (ty ∷ tys) (n ∷ ns) other = let others = fit_unequal tys ns in grind (arith, common_steps)
