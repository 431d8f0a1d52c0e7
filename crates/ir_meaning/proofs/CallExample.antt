-- A call that comes back: of a function that branches to its second block and returns what a register holds.
use Rattle.std.proofs.Common.{ℕ, List, [], ◌∷◌, Some, None, refl}
use Rattle.ir_values.specs.declared.types.Ty.{Ty}
use Rattle.ir_values.specs.declared.types.FuncTy.{FuncTy}
use Rattle.ir_values.specs.declared.constants.Operand.{Operand}
use Rattle.ir_values.specs.declared.instructions.Callee.{Callee}
use Rattle.ir_values.specs.declared.instructions.Inst.TheVariants.{Br, Call, Ret}
use Rattle.ir_values.specs.declared.modules.Block.{Block}
use Rattle.ir_values.specs.declared.modules.Func.{Func}
use Rattle.ir_values.specs.declared.modules.Linkage.{Linkage}
use Rattle.ir_values.specs.declared.modules.Module.{Module}
use Rattle.ir_memories.specs.Model.{Model}
use Rattle.ir_memories.specs.declared.values.Value.{Value}
use Rattle.ir_meaning.specs.declared.states.Frame.{Frame}
use Rattle.ir_meaning.specs.declared.states.State.{State}
use Rattle.ir_meaning.specs.declared.states.Status.TheVariants.{Running}
use Rattle.ir_meaning.specs.Laws.{SomeCallsComeBack}
use Rattle.ir_meaning.proofs.OperandLemmas.{value_of-register}

abbrev fty : FuncTy
fty = record { result = Ty.Ptr; params = [] }

abbrev function : List Block → Func
function blocks = record {
  place = record { file = 1; line = 1; column = 1 };
  name = [];
  linkage = Linkage.Strong;
  fty = fty;
  params = [];
  blocks = blocks;
  entries = [];
}

abbrev caller : List Block
caller = record { label = []; insts = Call (Some (7 ∷ [])) fty (Callee.Function []) [] ∷ [] } ∷ []

abbrev called : List Block
called = record { label = 1 ∷ []; insts = Br (2 ∷ []) ∷ [] } ∷ record { label = 2 ∷ []; insts = Ret Ty.Ptr (Some (Operand.Reg [])) ∷ [] } ∷ []

abbrev modules : List Module
modules = record { vars = []; funcs = function caller ∷ function called ∷ []; jumps = [] } ∷ []

abbrev frame : {P : Type 0} → ℕ → ℕ → Value P → Frame P
frame func block v = record { file = 1; func = func; block = block; place = 0; registers = record { name = []; value = v } ∷ [] }

abbrev state : {W P : Type 0} → W → Value P → State W P
state w v = record { memory = w; frame = frame 1 0 v; callers = []; taken = 0; events = []; status = Running; result = None }

pub some_calls_come_back : {W P : Type 0} (m : Model W P) → SomeCallsComeBack m
some_calls_come_back m w v = (
  modules,
  state w v,
  frame 1 0 v,
  frame 0 0 v,
  7 ∷ [],
  refl,
  refl,
  (Br (2 ∷ []), frame 1 1 v, refl, refl, refl, (Ty.Ptr, Operand.Reg [], refl, value_of-register m w (frame 1 1 v) [])),
  (fty, Callee.Function [], [], refl),
)
