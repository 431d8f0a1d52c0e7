-- How a run begins, and what it comes to.
use Rattle.std.specs.Prelude.{ℕ, ◌^◌, nat_lt, ◌==◌, Bool, true, false, not, ◌&&◌, IsTrue, List, [], ◌∷◌, length, Option, Some, None}
use Rattle.ir_values.specs.declared.types.Ty.{Ty, out-Ty}
use Rattle.ir_values.specs.declared.types.Ty.TheOpen.{Ty-F}
use Rattle.ir_values.specs.declared.types.Width.{Width}
use Rattle.ir_values.specs.declared.modules.Module.{Module}
use Rattle.ir_values.specs.declared.modules.Func.{Func}
use Rattle.ir_numbers.specs.Numbers.{bits}
use Rattle.type_metadata.specs.declared.objects.Object.{Object}
use Rattle.ir_memories.specs.Model.{Model}
use Rattle.ir_memories.specs.declared.values.Value.{Value}
use Rattle.ir_memories.specs.declared.values.Value.TheVariants.{Int}
use Rattle.ir_meaning.specs.declared.states.Register.{Register}
use Rattle.ir_meaning.specs.declared.states.Frame.{Frame}
use Rattle.ir_meaning.specs.declared.states.State.{State}
use Rattle.ir_meaning.specs.declared.states.Outcome.{Outcome}
use Rattle.ir_meaning.specs.declared.states.Status.TheVariants.{Running}
use Rattle.ir_meaning.specs.Places.{function_at}
use Rattle.ir_meaning.specs.Registers.{put}
use Rattle.ir_meaning.specs.Steps.{run}

-- a number fits a parameter of an integer type
abbrev pub fits_type : Ty-F Ty → ℕ → Bool
fits_type (Ty-F.Int width) n = nat_lt n (2 ^ bits width)
fits_type _ n = false

-- as many arguments as parameters, each of which fits
abbrev pub fit : List Ty → List ℕ → Bool
fit [] [] = true
fit [] (n ∷ ns) = false
fit (ty ∷ tys) [] = false
fit (ty ∷ tys) (n ∷ ns) = fits_type (out-Ty ty) n && fit tys ns

-- a function that has blocks, and takes these arguments
abbrev pub takes : Option Func → List ℕ → Bool
takes None args = false
takes (Some f) args = not (length f.blocks == 0) && length f.params == length f.fty.params && fit f.fty.params args

-- a run may begin at this function with these arguments
abbrev pub IsEntry : List Module → Object → List ℕ → Type 0
IsEntry modules entry args = IsTrue (entry.function && takes (function_at modules entry.file entry.index) args)

-- an argument as a value of its type; other types take none
abbrev pub argument : {P : Type 0} → Ty-F Ty → ℕ → Value P
argument (Ty-F.Int width) n = Int width n
argument _ n = Int Width.W64 n

-- the registers with those of the parameters
abbrev pub parameters : {P : Type 0} → List (Register P) → List (List ℕ) → List Ty → List ℕ → List (Register P)
parameters registers (name ∷ names) (ty ∷ tys) (n ∷ ns) = parameters (put registers name (argument (out-Ty ty) n)) names tys ns
parameters registers _ _ _ = registers

abbrev pub first_registers : {P : Type 0} → Option Func → List ℕ → List (Register P)
first_registers None args = []
first_registers (Some f) args = parameters [] f.params f.fty.params args

-- the frame of a call from outside
abbrev pub first_frame : {P : Type 0} → List Module → Object → List ℕ → Frame P
first_frame modules entry args = record {
  file = entry.file;
  func = entry.index;
  block = 0;
  place = 0;
  registers = first_registers (function_at modules entry.file entry.index) args;
}

-- the state before the first step
abbrev pub start : {W P : Type 0} → List Module → W → Object → List ℕ → State W P
start modules memory entry args = record {
  memory = memory;
  frame = first_frame modules entry args;
  callers = [];
  taken = 0;
  events = [];
  status = Running;
  result = None;
}

abbrev pub outcome_of : {W P : Type 0} → State W P → Outcome P
outcome_of s = record { events = s.events; status = s.status; result = s.result }

-- what a run of so many steps has come to
abbrev pub outcome : {W P : Type 0} → Model W P → List Module → W → Object → List ℕ → List ℕ → ℕ → Outcome P
outcome m modules memory entry args answers n = outcome_of (run m modules answers n (start modules memory entry args))
