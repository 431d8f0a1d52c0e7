-- Laws of steps and runs.
use Rattle.std.proofs.Common.{◌≡◌, ◌≢◌, ℕ, zero, suc, ◌+◌, List, refl, ap, ◌∙◌, arith}
use Rattle.ir_values.specs.declared.modules.Module.{Module}
use Rattle.ir_memories.specs.Model.{Model}
use Rattle.ir_meaning.specs.declared.states.State.{State}
use Rattle.ir_meaning.specs.declared.states.Status.{Status}
use Rattle.ir_meaning.specs.declared.states.Status.TheVariants.{Running, Returned, Trapped, Starved, Undefined}
use Rattle.ir_meaning.specs.Steps.{step, stepped, run}

module _ {W P : Type 0} (m : Model W P) (modules : List Module) (answers : List ℕ) where
  -- the first step, and then the others
  pub run-first : (n : ℕ) (s : State W P) → run m modules answers (suc n) s ≡ run m modules answers n (step m modules answers s)
  run-first n s = refl

  -- all steps but the last, and then the last
  pub run_last : (n : ℕ) (s : State W P) → run m modules answers (n + 1) s ≡ step m modules answers (run m modules answers n s)
  run_last zero s = refl
  run_last (suc n) s =
      let e : suc n + 1 ≡ suc (n + 1) = omega arith in
      ap (λ k. run m modules answers k s) e ∙ run_last n (step m modules answers s)

  -- some steps, and then some more
  pub run_sum : (j k : ℕ) (s : State W P) → run m modules answers (j + k) s ≡ run m modules answers k (run m modules answers j s)
  run_sum zero k s = let e : 0 + k ≡ k = omega arith in ap (λ n. run m modules answers n s) e
  run_sum (suc j) k s =
      let e : suc j + k ≡ suc (j + k) = omega arith in
      ap (λ n. run m modules answers n s) e ∙ run_sum j k (step m modules answers s)

  ended : (s : State W P) (status : Status) → status ≢ Running → stepped m modules answers s status ≡ s
  ended s Running ends = absurd (ends refl)
  ended s Returned ends = refl
  ended s Trapped ends = refl
  ended s Starved ends = refl
  ended s Undefined ends = refl

  -- a run that has ended stays as it is
  pub step_ended : (s : State W P) → s.status ≢ Running → step m modules answers s ≡ s
  step_ended s ends = ended s s.status ends

  pub run_ended : (n : ℕ) (s : State W P) → s.status ≢ Running → run m modules answers n s ≡ s
  run_ended zero s ends = refl
  run_ended (suc n) s ends = ap (run m modules answers n) (step_ended s ends) ∙ run_ended n s ends
