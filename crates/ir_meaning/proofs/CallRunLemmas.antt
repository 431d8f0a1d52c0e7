-- Laws of calls that return after plain instructions.
use Rattle.std.proofs.Common.{◌≡◌, ℕ, zero, suc, ◌+◌, true, List, ◌∷◌, Some, refl, ap, ◌∙◌, arith}
use Rattle.ir_values.specs.declared.types.Ty.{Ty}
use Rattle.ir_values.specs.declared.constants.Operand.{Operand}
use Rattle.ir_values.specs.declared.instructions.Inst.{Inst}
use Rattle.ir_values.specs.declared.instructions.Inst.TheVariants.{Store, Call, Ret, Trap}
use Rattle.ir_values.specs.declared.modules.Module.{Module}
use Rattle.ir_memories.specs.Model.{Model}
use Rattle.ir_memories.specs.declared.values.Value.{Value}
use Rattle.ir_meaning.specs.declared.states.Frame.{Frame}
use Rattle.ir_meaning.specs.declared.states.State.{State}
use Rattle.ir_meaning.specs.declared.states.Status.TheVariants.{Running}
use Rattle.ir_meaning.specs.Places.{fetched}
use Rattle.ir_meaning.specs.Operands.{value_of}
use Rattle.ir_meaning.specs.Frames.{set_next}
use Rattle.ir_meaning.specs.Plain.{plain}
use Rattle.ir_meaning.specs.Steps.{act, step, run}
use Rattle.ir_meaning.specs.Sequence.{◌>>=◌}
use Rattle.ir_meaning.specs.Laws.{at, is_plain, TakesInto, StaysInItsFrame, CallsComeBack, CallsAreQuiet}

module _ {W P : Type 0} (m : Model W P) where
  pub stays_in_its_frame : StaysInItsFrame m
  stays_in_its_frame modules answers s (Store ty value addr) f callers is = cc
  stays_in_its_frame modules answers s (Call dst fty callee args) f callers is = cc
  stays_in_its_frame modules answers s (Ret ty value) f callers is = cc
  stays_in_its_frame modules answers s (Trap code) f callers is = cc
  stays_in_its_frame modules answers s i f callers is = refl

  -- a step of a run that goes on takes the instruction that its frame stands at
  pub step_taken : (modules : List Module) (answers : List ℕ) (s t : State W P) (i : Inst) → s.status ≡ Running
      → fetched modules s.frame ≡ Some i → act m modules answers s i ≡ Some t → step m modules answers s ≡ t
  step_taken modules answers s t i running stands acts = grind arith

  step_plain : (modules : List Module) (answers : List ℕ) (s : State W P) (i : Inst) (f g : Frame P) (callers : List (Frame P))
      → s.status ≡ Running → fetched modules f ≡ Some i → is_plain i ≡ true → plain m modules s.memory f i ≡ Some g
      → step m modules answers (at s f callers) ≡ at s g callers
  step_plain modules answers s i f g callers running stands is takes =
      step_taken modules answers (at s f callers) (at s g callers) i running stands
      (stays_in_its_frame modules answers s i f callers is ∙ ap (λ after. after >>= λ h. Some (at s h callers)) takes)

  step_back : (modules : List Module) (answers : List ℕ) (s : State W P) (g f : Frame P) (callers : List (Frame P)) (v : Value P) (dst : List ℕ)
      (ty : Ty) (o : Operand) → s.status ≡ Running → fetched modules g ≡ Some (Ret ty (Some o)) → value_of m s.memory g o ≡ Some v
      → TakesInto modules f dst → step m modules answers (at s g (f ∷ callers)) ≡ at s (set_next f dst v) callers
  step_back modules answers s g f callers v dst ty o running stands holds (fty, callee, args, call) =
      step_taken modules answers (at s g (f ∷ callers)) (at s (set_next f dst v) callers) (Ret ty (Some o)) running stands (rw holds (rw call refl))

  pub calls_come_back : CallsComeBack m
  calls_come_back modules answers s zero g f callers v dst running (ty, o, stands, holds) into =
      step_back modules answers s g f callers v dst ty o running stands holds into
  calls_come_back modules answers s (suc n) g f callers v dst running (i, h, stands, is, takes, returns) into =
      let e : suc n + 1 ≡ suc (n + 1) = omega arith in
      ap (λ k. run m modules answers k (at s g (f ∷ callers))) e
      ∙ ap (run m modules answers (n + 1)) (step_plain modules answers s i g h (f ∷ callers) running stands is takes)
      ∙ calls_come_back modules answers s n h f callers v dst running returns into

  pub calls_are_quiet : CallsAreQuiet m
  calls_are_quiet modules answers s n zero g callers v running returns less = (g, refl)
  calls_are_quiet modules answers s zero (suc j) g callers v running returns less = absurd (omega arith)
  calls_are_quiet modules answers s (suc n) (suc j) g callers v running (i, h, stands, is, takes, returns) less =
      let rest = calls_are_quiet modules answers s n j h callers v running returns (omega arith) in
      (rest.0, ap (run m modules answers j) (step_plain modules answers s i g h callers running stands is takes) ∙ rest.1)
