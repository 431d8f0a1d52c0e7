-- Steps and runs of a program. `answers` are those that externals give, in the order in which they are taken.
use Rattle.std.specs.Prelude.{ℕ, suc, zero, List, [], ◌∷◌, Option, Some, None}
use Rattle.std.specs.Option.{unwrap_or}
use Rattle.ir_values.specs.declared.constants.Operand.{Operand}
use Rattle.ir_values.specs.declared.modules.Module.{Module}
use Rattle.ir_values.specs.declared.instructions.Inst.{Inst}
use Rattle.ir_values.specs.declared.instructions.Inst.TheVariants.{Call, Ret, Store, Trap}
use Rattle.ir_memories.specs.Model.{Model}
use Rattle.ir_memories.specs.declared.values.Value.{Value}
use Rattle.ir_meaning.specs.declared.states.Frame.{Frame}
use Rattle.ir_meaning.specs.declared.states.State.{State}
use Rattle.ir_meaning.specs.declared.states.Status.{Status}
use Rattle.ir_meaning.specs.declared.states.Status.TheVariants.{Running, Returned, Trapped, Undefined}
use Rattle.ir_meaning.specs.Places.{fetched}
use Rattle.ir_meaning.specs.Operands.{value_of, pointer_of}
use Rattle.ir_meaning.specs.Frames.{next, answered}
use Rattle.ir_meaning.specs.Plain.{plain}
use Rattle.ir_meaning.specs.Externals.{called_at}
use Rattle.ir_meaning.specs.Sequence.{◌>>=◌}

-- a caller behind its call
abbrev pub behind_call : {P : Type 0} → Frame P → Option (Value P) → Inst → Option (Frame P)
behind_call f value (Call dst fty callee args) = answered f dst value
behind_call f value _ = None

-- a caller goes on, which stands at its call
abbrev pub resumed : {P : Type 0} → List Module → Frame P → Option (Value P) → Option (Frame P)
resumed modules f value = fetched modules f >>= behind_call f value

-- the frame is left: the last caller goes on, and without one the program has returned
abbrev pub left : {W P : Type 0} → List Module → State W P → Option (Value P) → List (Frame P) → Option (State W P)
left modules s value [] = Some (record s { status = Returned; result = value })
left modules s value (caller ∷ callers) = resumed modules caller value >>= λ f. Some (record s { frame = f; callers = callers })

-- a change of the frame alone
abbrev pub on_frame : {W P : Type 0} → State W P → Option (Frame P) → Option (State W P)
on_frame s frame = frame >>= λ f. Some (record s { frame = f })

module _ {W P : Type 0} (m : Model W P) where
  -- Source: LLVM Language Reference, "'store' Instruction".
  abbrev pub stored_at : State W P → Operand → Operand → Option (State W P)
  stored_at s value addr = do
    v ← value_of m s.memory s.frame value
    p ← pointer_of m s.memory s.frame addr
    memory ← m.store s.memory v p
    Some (record s { memory = memory; frame = next s.frame })

module _ {W P : Type 0} (m : Model W P) (modules : List Module) where
  -- Source: LLVM Language Reference, "'ret' Instruction".
  abbrev pub returned_at : State W P → Option Operand → Option (State W P)
  returned_at s None = left modules s None s.callers
  returned_at s (Some value) = value_of m s.memory s.frame value >>= λ v. left modules s (Some v) s.callers

module _ {W P : Type 0} (m : Model W P) (modules : List Module) (answers : List ℕ) where
  -- The state after an instruction; None: it is undefined. So it is at an `unreachable`.
  -- Source: LLVM Language Reference, "'unreachable' Instruction", "'llvm.trap' Intrinsic" and "'llvm.ubsantrap' Intrinsic".
  abbrev pub act : State W P → Inst → Option (State W P)
  act s (Ret ty value) = returned_at m modules s value
  act s (Store ty value addr) = stored_at m s value addr
  act s (Trap code) = Some (record s { status = Trapped })
  act s (Call dst fty callee args) = called_at m modules answers s dst fty callee args
  act s i = on_frame s (plain m modules s.memory s.frame i)

  -- the state after the instruction that the frame stands at
  abbrev pub taken : State W P → Option (State W P)
  taken s = fetched modules s.frame >>= act s

  abbrev pub stepped : State W P → Status → State W P
  stepped s Running = unwrap_or (taken s) (record s { status = Undefined })
  stepped s _ = s

  -- One step. Where no instruction stands, or the step is undefined, that is the status, and nothing else changes. A run
  -- that has ended stays as it is.
  abbrev pub step : State W P → State W P
  step s = stepped s s.status

  -- so many steps
  abbrev pub run : ℕ → State W P → State W P
  run zero s = s
  run (suc n) s = run n (step s)
