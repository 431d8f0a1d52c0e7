-- Runs of the source and of the output go on together.
use Rattle.std.proofs.Common.{◌≡◌, ◌≢◌, ℕ, ◌+◌, zero, suc, List, [], ◌∷◌, Option, Some, None, refl, sym, ap, subst, ◌∙◌}
use Rattle.std.specs.Option.{unwrap_or}
use Rattle.ir_values.specs.declared.modules.Module.{Module}
use Rattle.ir_values.specs.declared.instructions.Inst.{Inst}
use Rattle.ir_memories.specs.Model.{Model}
use Rattle.ir_meaning.specs.declared.states.Frame.{Frame}
use Rattle.ir_meaning.specs.declared.states.State.{State}
use Rattle.ir_meaning.specs.declared.states.Status.{Status}
use Rattle.ir_meaning.specs.declared.states.Status.TheVariants.{Running, Returned, Trapped, Starved, Undefined}
use Rattle.ir_meaning.specs.Places.{instruction_at, fetched}
use Rattle.ir_meaning.specs.Steps.{act, taken, stepped, step, run}
use Rattle.ir_meaning.specs.Sequence.{◌>>=◌}
use Rattle.ir_meaning.proofs.RunLemmas.{run_ended}
use Rattle.test_lowering.specs.Rewriting.{rewritten}
use Rattle.simulation.specs.Same.{SameFrame, Related}
use Rattle.simulation.proofs.Following.{Followed, in_turn}
use Rattle.simulation.proofs.ValueLaws.{Bridge}
use Rattle.simulation.proofs.StepLaws.{AreAllPlain, Becomes, act_followed}
use Rattle.simulation.proofs.TakenLaws.{instruction_followed}

unwrapped : {A B : Type 0} (R : A → B → Type 0) (IsDefined : A → Type 0) (o : Option A) (p : Option B) (a : A) (b : B) → Followed R o p
    → IsDefined (unwrap_or o a) → (IsDefined a → ⊥) → R (unwrap_or o a) (unwrap_or p b)
unwrapped R IsDefined None p a b follows defined never = absurd (never defined)
unwrapped R IsDefined (Some x) None a b follows defined never = absurd follows
unwrapped R IsDefined (Some x) (Some y) a b follows defined never = follows

module _ {W V P Q : Type 0} (m : Model W P) (n : Model V Q) (w : W) (v : V) (Stands : P → Q → Type 0) (M : Module) (b : Bridge m n w v Stands M)
    (all : AreAllPlain M) (answers : List ℕ) where
  fetched_followed : (f : Frame P) (g : Frame Q) → f.file ≡ 1 → SameFrame Stands f g → Followed (Becomes M) (fetched (M ∷ []) f) (fetched (rewritten M ∷ []) g)
  fetched_followed f g first same =
      at_places f.file g.file first (sym same.file ∙ first) g.func same.func g.block same.block g.place same.place where
        at_places : (file file' : ℕ) → file ≡ 1 → file' ≡ 1 → (func : ℕ) → f.func ≡ func → (block : ℕ) → f.block ≡ block → (place : ℕ) → f.place ≡ place
            → Followed (Becomes M) (instruction_at (M ∷ []) file f.func f.block f.place) (instruction_at (rewritten M ∷ []) file' func block place)
        at_places file file' first first' func same_func block same_block place same_place =
            rw (first, first', sym same_func, sym same_block, sym same_place) (instruction_followed M all f.func f.block f.place)

  taken_followed : (s : State W P) (t : State V Q) → Related Stands w v s t
      → Followed (Related Stands w v) (taken m (M ∷ []) answers s) (taken n (rewritten M ∷ []) answers t)
  taken_followed s t r =
      in_turn (Becomes M) (Related Stands w v) (fetched (M ∷ []) s.frame) (fetched (rewritten M ∷ []) t.frame)
      (act m (M ∷ []) answers s) (act n (rewritten M ∷ []) answers t) (fetched_followed s.frame t.frame r.file r.frame)
      (λ i j becomes. act_followed m n w v Stands M b (M ∷ []) (rewritten M ∷ []) answers s t r i (all i becomes.1) j becomes.0)

  abbrev IsDefined : State W P → Type 0
  IsDefined s = s.status ≢ Undefined

  stepped_followed : (s : State W P) (t : State V Q) → Related Stands w v s t → (status : Status)
      → IsDefined (stepped m (M ∷ []) answers s status)
      → Related Stands w v (stepped m (M ∷ []) answers s status) (stepped n (rewritten M ∷ []) answers t status)
  stepped_followed s t r Running defined =
      unwrapped (Related Stands w v) IsDefined (taken m (M ∷ []) answers s) (taken n (rewritten M ∷ []) answers t)
      (record s { status = Undefined }) (record t { status = Undefined }) (taken_followed s t r) defined (λ never. never refl)
  stepped_followed s t r Returned defined = r
  stepped_followed s t r Trapped defined = r
  stepped_followed s t r Starved defined = r
  stepped_followed s t r Undefined defined = r

  step_followed : (s : State W P) (t : State V Q) → Related Stands w v s t → IsDefined (step m (M ∷ []) answers s)
      → Related Stands w v (step m (M ∷ []) answers s) (step n (rewritten M ∷ []) answers t)
  step_followed s t r defined =
      subst (λ status. Related Stands w v (step m (M ∷ []) answers s) (stepped n (rewritten M ∷ []) answers t status)) r.status
      (stepped_followed s t r s.status defined)

  -- a run that has no undefined step has none at its first
  first_defined : (k : ℕ) (s : State W P) → IsDefined (run m (M ∷ []) answers k s) → IsDefined s
  first_defined k s defined is =
      defined (ap (λ (u : State W P). u.status) (run_ended m (M ∷ []) answers k s (λ running. no_run (sym is ∙ running))) ∙ is) where
        no_run : Undefined ≡ Running → ⊥
        no_run e = cc

  -- k steps of the output follow k steps of the source
  pub run_followed : (k : ℕ) (s : State W P) (t : State V Q) → Related Stands w v s t → IsDefined (run m (M ∷ []) answers k s)
      → Related Stands w v (run m (M ∷ []) answers k s) (run n (rewritten M ∷ []) answers k t)
  run_followed zero s t r defined = r
  run_followed (suc k) s t r defined =
      run_followed k (step m (M ∷ []) answers s) (step n (rewritten M ∷ []) answers t)
      (step_followed s t r (first_defined k (step m (M ∷ []) answers s) defined)) defined
