-- Where a frame stands: the modules' functions, their blocks and instructions.
use Rattle.std.specs.Prelude.{ℕ, ◌-◌, ◌==◌, List, slice_get, if◌then◌else◌, Option, None}
use Rattle.ir_values.specs.declared.modules.Module.{Module}
use Rattle.ir_values.specs.declared.modules.Func.{Func}
use Rattle.ir_values.specs.declared.instructions.Inst.{Inst}
use Rattle.ir_meaning.specs.declared.states.Frame.{Frame}
use Rattle.ir_meaning.specs.Sequence.{◌>>=◌}

-- the module of a file; files count from 1
abbrev pub module_at : List Module → ℕ → Option Module
module_at modules file = if file == 0 then None else slice_get modules (file - 1)

abbrev pub function_at : List Module → ℕ → ℕ → Option Func
function_at modules file func = module_at modules file >>= λ m. slice_get m.funcs func

-- the instruction at a place of a block
abbrev pub instruction_at : List Module → ℕ → ℕ → ℕ → ℕ → Option Inst
instruction_at modules file func block place =
    function_at modules file func >>= λ f. slice_get f.blocks block >>= λ b. slice_get b.insts place

-- the instruction that a frame is about to take; a caller's frame stands at its call
abbrev pub fetched : {P : Type 0} → List Module → Frame P → Option Inst
fetched modules f = instruction_at modules f.file f.func f.block f.place
