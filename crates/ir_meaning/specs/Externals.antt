-- Calls of external functions. Each is an event; one that has a result takes the next answer.
use Rattle.std.specs.Prelude.{ℕ, ◌+◌, ◌%◌, ◌^◌, ◌==◌, List, [], ◌∷◌, ◌++◌, slice_get, if◌then◌else◌, Option, Some, None}
use Rattle.ir_values.specs.declared.types.Ty.{Ty, out-Ty}
use Rattle.ir_values.specs.declared.types.Ty.TheOpen.{Ty-F}
use Rattle.ir_values.specs.declared.types.FuncTy.{FuncTy}
use Rattle.ir_values.specs.declared.constants.Operand.{Operand}
use Rattle.ir_values.specs.declared.instructions.Callee.{Callee}
use Rattle.ir_values.specs.declared.modules.Module.{Module}
use Rattle.ir_numbers.specs.Numbers.{bits}
use Rattle.type_metadata.specs.declared.objects.Object.{Object}
use Rattle.ir_memories.specs.Model.{Model}
use Rattle.ir_memories.specs.declared.values.Value.{Value}
use Rattle.ir_memories.specs.declared.values.Value.TheVariants.{Int, Ptr}
use Rattle.ir_memories.specs.declared.values.Goal.{Goal}
use Rattle.ir_meaning.specs.declared.states.Event.{Event}
use Rattle.ir_meaning.specs.declared.states.State.{State}
use Rattle.ir_meaning.specs.declared.states.Status.TheVariants.{Starved}
use Rattle.ir_meaning.specs.Frames.{answered}
use Rattle.ir_meaning.specs.Calls.{callee_of, values, callee_frame, is_external}
use Rattle.ir_meaning.specs.Sequence.{◌>>=◌}

-- An answer as a value of the result's type, an integer modulo its width. A pointer is only null: other answers have no meaning.
abbrev pub answer_value : {W P : Type 0} → Model W P → Ty-F Ty → ℕ → Option (Value P)
answer_value m (Ty-F.Int width) n = Some (Int width (n % 2 ^ bits width))
answer_value m Ty-F.Ptr n = if n == 0 then Some (Ptr m.null) else None
answer_value m _ n = None

-- no answer is left for a result of this type: the run starves, without an event
abbrev pub starved : {W P : Type 0} → State W P → Ty-F Ty → Option (State W P)
starved s (Ty-F.Int width) = Some (record s { status = Starved })
starved s Ty-F.Ptr = Some (record s { status = Starved })
starved s _ = None

-- the event, behind which the answer is in the call's register
abbrev pub happened : {W P : Type 0} → State W P → Option (List ℕ) → Event P → ℕ → Option (State W P)
happened s dst event taken = do
  f ← answered s.frame dst event.answer
  Some (record s { frame = f; taken = taken; events = s.events ++ event ∷ [] })

abbrev pub event_of : {P : Type 0} → List ℕ → List (Value P) → Option (Value P) → Event P
event_of name args answer = record { name = name; args = args; answer = answer }

module _ {W P : Type 0} (m : Model W P) (answers : List ℕ) (s : State W P) (dst : Option (List ℕ)) (name : List ℕ) (args : List (Value P)) where
  -- a call whose result is of this type, with the next answer
  abbrev pub replied : Ty-F Ty → Option ℕ → Option (State W P)
  replied ty None = starved s ty
  replied ty (Some n) = answer_value m ty n >>= λ value. happened s dst (event_of name args (Some value)) (s.taken + 1)

  -- a call of an external function with a result of this type
  abbrev pub external_at : Ty-F Ty → Option (State W P)
  external_at Ty-F.Void = happened s dst (event_of name args None) s.taken
  external_at ty = replied ty (slice_get answers s.taken)

-- the state in a function that a module defines; the caller stays at its call
abbrev pub entered_function : {W P : Type 0} → List Module → State W P → Object → FuncTy → List (Value P) → Option (State W P)
entered_function modules s object fty args =
    callee_frame modules object fty args >>= λ f. Some (record s { frame = f; callers = s.frame ∷ s.callers })

module _ {W P : Type 0} (m : Model W P) (modules : List Module) (answers : List ℕ) (s : State W P) where
  -- a call that leads to a function
  abbrev pub reached : Option (List ℕ) → FuncTy → List (Value P) → Goal → Option (State W P)
  reached dst fty args (Goal.Defined object) = entered_function modules s object fty args
  reached dst fty args (Goal.External name) =
      if is_external modules name fty then external_at m answers s dst name args (out-Ty fty.result) else None

  -- Source: LLVM Language Reference, "'call' Instruction". Differs: a call of another type than that of its target is undefined
  -- always, and so is one of `__cxa_pure_virtual`. External functions change no memory.
  abbrev pub called_at : Option (List ℕ) → FuncTy → Callee → List Operand → Option (State W P)
  called_at dst fty callee operands = do
    p ← callee_of m s.memory s.frame callee
    args ← values m s.memory s.frame [] operands
    goal ← m.goal s.memory p
    reached dst fty args goal
