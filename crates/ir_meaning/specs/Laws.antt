-- What holds of the machine over every memory.
use Rattle.std.specs.Prelude.{◌≡◌, ◌≢◌, ℕ, zero, suc, ◌+◌, ◌≤◌, Bool, true, false, List, ◌∷◌, Some}
use Rattle.ir_values.specs.declared.types.Ty.{Ty}
use Rattle.ir_values.specs.declared.types.FuncTy.{FuncTy}
use Rattle.ir_values.specs.declared.constants.Operand.{Operand}
use Rattle.ir_values.specs.declared.instructions.Callee.{Callee}
use Rattle.ir_values.specs.declared.instructions.Inst.{Inst}
use Rattle.ir_values.specs.declared.instructions.Inst.TheVariants.{Store, Call, Ret, Trap}
use Rattle.ir_values.specs.declared.modules.Module.{Module}
use Rattle.ir_memories.specs.Model.{Model}
use Rattle.ir_memories.specs.declared.values.Value.{Value}
use Rattle.ir_meaning.specs.declared.states.Register.{Register}
use Rattle.ir_meaning.specs.declared.states.Frame.{Frame}
use Rattle.ir_meaning.specs.declared.states.State.{State}
use Rattle.ir_meaning.specs.declared.states.Status.TheVariants.{Running}
use Rattle.ir_meaning.specs.Places.{fetched}
use Rattle.ir_meaning.specs.Registers.{get, put}
use Rattle.ir_meaning.specs.Operands.{value_of}
use Rattle.ir_meaning.specs.Frames.{set_next}
use Rattle.ir_meaning.specs.Plain.{plain}
use Rattle.ir_meaning.specs.Steps.{act, step, run}
use Rattle.ir_meaning.specs.Sequence.{◌>>=◌}

-- a register holds what was put into it last
abbrev pub HoldsWhatWasPut : Type 0 → Type 0
HoldsWhatWasPut P = (registers : List (Register P)) (name : List ℕ) (value : Value P) → get (put registers name value) name ≡ Some value

-- and the others hold what they held
abbrev pub LeavesTheOthers : Type 0 → Type 0
LeavesTheOthers P = (registers : List (Register P)) (name other : List ℕ) (value : Value P) → other ≢ name
    → get (put registers name value) other ≡ get registers other

-- the frames of a state
abbrev pub at : {W P : Type 0} → State W P → Frame P → List (Frame P) → State W P
at s f callers = record s { frame = f; callers = callers }

-- the instructions that stay in their frame
abbrev pub is_plain : Inst → Bool
is_plain (Store ty value addr) = false
is_plain (Call dst fty callee args) = false
is_plain (Ret ty value) = false
is_plain (Trap code) = false
is_plain _ = true

-- a call at which a frame stands puts its result into a register
abbrev pub TakesInto : {P : Type 0} → List Module → Frame P → List ℕ → Type 0
TakesInto modules f dst = (fty : FuncTy) × (callee : Callee) × (args : List Operand) × (fetched modules f ≡ Some (Call (Some dst) fty callee args))

module _ {W P : Type 0} (m : Model W P) where
  -- a run is one of its first steps, and then one of the others
  abbrev pub RunsAdd : Type 0
  RunsAdd = (modules : List Module) (answers : List ℕ) (j k : ℕ) (s : State W P)
      → run m modules answers (j + k) s ≡ run m modules answers k (run m modules answers j s)

  -- a run ends in a step
  abbrev pub RunsEndInAStep : Type 0
  RunsEndInAStep = (modules : List Module) (answers : List ℕ) (n : ℕ) (s : State W P)
      → run m modules answers (n + 1) s ≡ step m modules answers (run m modules answers n s)

  -- a run that has ended stays as it is
  abbrev pub EndedRunsStay : Type 0
  EndedRunsStay = (modules : List Module) (answers : List ℕ) (n : ℕ) (s : State W P) → s.status ≢ Running
      → run m modules answers n s ≡ s

  -- a plain instruction does the same under all callers: it changes its frame alone
  abbrev pub StaysInItsFrame : Type 0
  StaysInItsFrame = (modules : List Module) (answers : List ℕ) (s : State W P) (i : Inst) (f : Frame P) (callers : List (Frame P))
      → is_plain i ≡ true
      → act m modules answers (at s f callers) i ≡ (plain m modules s.memory f i >>= λ g. Some (at s g callers))

  -- the frame takes so many plain instructions, and then returns the value
  abbrev pub Returns : List Module → State W P → ℕ → Frame P → Value P → Type 0
  Returns modules s zero f v = (ty : Ty) × (o : Operand) × (fetched modules f ≡ Some (Ret ty (Some o))) × (value_of m s.memory f o ≡ Some v)
  Returns modules s (suc n) f v = (i : Inst) × (g : Frame P) × (fetched modules f ≡ Some i) × (is_plain i ≡ true)
      × (plain m modules s.memory f i ≡ Some g) × Returns modules s n g v

  -- where a called frame returns so, the caller goes on with the value in its call's register, and nothing else has changed
  abbrev pub CallsComeBack : Type 0
  CallsComeBack = (modules : List Module) (answers : List ℕ) (s : State W P) (n : ℕ) (g f : Frame P) (callers : List (Frame P))
      (v : Value P) (dst : List ℕ) → s.status ≡ Running → Returns modules s n g v → TakesInto modules f dst
      → run m modules answers (n + 1) (at s g (f ∷ callers)) ≡ at s (set_next f dst v) callers

  -- until then only the called frame changes
  abbrev pub CallsAreQuiet : Type 0
  CallsAreQuiet = (modules : List Module) (answers : List ℕ) (s : State W P) (n j : ℕ) (g : Frame P) (callers : List (Frame P))
      (v : Value P) → s.status ≡ Running → Returns modules s n g v → j ≤ n
      → (h : Frame P) × (run m modules answers j (at s g callers) ≡ at s h callers)

  -- there are such calls, of every value
  abbrev pub SomeCallsComeBack : Type 0
  SomeCallsComeBack = (w : W) (v : Value P) → (modules : List Module) × (s : State W P) × (g : Frame P) × (f : Frame P) × (dst : List ℕ)
      × (s.status ≡ Running) × (s.memory ≡ w) × Returns modules s 1 g v × TakesInto modules f dst
