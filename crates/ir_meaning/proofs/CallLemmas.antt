-- Lemmas on calls.
use Rattle.std.proofs.Common.{◌≡◌, ◌≢◌, ℕ, suc, List, [], ◌∷◌, ◌++◌, length, None, refl, ap, arith}
use Rattle.std.proofs.lemmas.Grind.{common_steps}
use Rattle.ir_memories.specs.declared.values.Value.{Value}
use Rattle.ir_meaning.specs.declared.states.Register.{Register}
use Rattle.ir_meaning.specs.Registers.{put}
use Rattle.ir_meaning.specs.Calls.{bound}

-- other than as many arguments are none
pub bound_unequal : {P : Type 0} (registers : List (Register P)) (names : List (List ℕ)) (args : List (Value P))
    → (length names ≢ length args) → bound registers names args ≡ None
bound_unequal registers [] [] other = absurd (other refl)
bound_unequal registers [] (value ∷ args) other = refl
bound_unequal registers (name ∷ names) [] other = refl
bound_unequal registers (name ∷ names) (value ∷ args) other =
    bound_unequal (put registers name value) names args (λ is. other (ap suc is))

-- what was added last is what is taken off
pub dropped_last : {X : Type 0} (xs ys : List X) (x y : X) → xs ++ x ∷ [] ≡ ys ++ y ∷ [] → ys ≡ xs
dropped_last xs ys x y is = grind (arith, common_steps)
