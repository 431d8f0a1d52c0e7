-- How an instruction leaves its frame.
use Rattle.std.specs.Prelude.{ℕ, ◌+◌, List, Option, Some, None}
use Rattle.ir_memories.specs.declared.values.Value.{Value}
use Rattle.ir_meaning.specs.declared.states.Frame.{Frame}
use Rattle.ir_meaning.specs.Registers.{put}
use Rattle.ir_meaning.specs.Sequence.{◌>>=◌}

-- the frame behind its instruction
abbrev pub next : {P : Type 0} → Frame P → Frame P
next f = record f { place = f.place + 1 }

-- the same, with a register set
abbrev pub set_next : {P : Type 0} → Frame P → List ℕ → Value P → Frame P
set_next f dst value = record f { place = f.place + 1; registers = put f.registers dst value }

-- an instruction that gives a value sets a register to it
abbrev pub given : {P : Type 0} → Frame P → List ℕ → Option (Value P) → Option (Frame P)
given f dst value = value >>= λ v. Some (set_next f dst v)

-- the same behind a call: what came back is in the call's register, if it has one
abbrev pub answered : {P : Type 0} → Frame P → Option (List ℕ) → Option (Value P) → Option (Frame P)
answered f None value = Some (next f)
answered f (Some dst) value = given f dst value
