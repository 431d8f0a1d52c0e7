-- What a call calls, and the frame in which a function runs that a module defines.
use Rattle.std.specs.Prelude.{ℕ, ◌==◌, nat_eq, Bool, false, not, ◌&&◌, List, [], ◌∷◌, ◌++◌, length, codes, if◌then◌else◌, Option, Some, None}
use Rattle.std.specs.Option.{option_or}
use Rattle.std.specs.Cmp.Lexicographic.{pointwise}
use Rattle.ir_values.specs.declared.types.FuncTy.{FuncTy}
use Rattle.ir_values.specs.declared.constants.Operand.{Operand}
use Rattle.ir_values.specs.declared.instructions.Callee.{Callee}
use Rattle.ir_values.specs.declared.modules.Func.{Func}
use Rattle.ir_values.specs.declared.modules.Module.{Module}
use Rattle.ir_values.specs.Equality.{same_func_ty}
use Rattle.type_metadata.specs.declared.objects.Object.{Object}
use Rattle.ir_memories.specs.Model.{Model}
use Rattle.ir_memories.specs.declared.values.Value.{Value}
use Rattle.ir_meaning.specs.declared.states.Register.{Register}
use Rattle.ir_meaning.specs.declared.states.Frame.{Frame}
use Rattle.ir_meaning.specs.Places.{function_at}
use Rattle.ir_meaning.specs.Registers.{put}
use Rattle.ir_meaning.specs.Operands.{value_of, pointer_of}
use Rattle.ir_meaning.specs.Sequence.{◌>>=◌}

-- a slot of a class that has no function of its own holds this one, and no call of it is defined
unfoldable pub pure_virtual : List ℕ
pure_virtual = codes "__cxa_pure_virtual"

abbrev pub is_pure_virtual : List ℕ → Bool
is_pure_virtual name = pointwise nat_eq name pure_virtual

module _ {W P : Type 0} (m : Model W P) (w : W) (f : Frame P) where
  -- the pointer that is called
  abbrev pub callee_of : Callee → Option P
  callee_of (Callee.Function name) = Some (m.address w f.file name 0)
  callee_of (Callee.Value operand) = pointer_of m w f operand

  -- the values so far, and those of the operands behind them
  abbrev pub values : List (Value P) → List Operand → Option (List (Value P))
  values done [] = Some done
  values done (operand ∷ rest) = value_of m w f operand >>= λ value. values (done ++ value ∷ []) rest

-- the registers with those of the parameters; there are as many arguments
abbrev pub bound : {P : Type 0} → List (Register P) → List (List ℕ) → List (Value P) → Option (List (Register P))
bound registers [] [] = Some registers
bound registers [] (value ∷ values) = None
bound registers (name ∷ names) [] = None
bound registers (name ∷ names) (value ∷ values) = bound (put registers name value) names values

-- a definition of the written type that may be called
abbrev pub is_callable : Func → FuncTy → Bool
is_callable f fty = not (length f.blocks == 0) && same_func_ty f.fty fty && not (is_pure_virtual f.name)

-- a frame at the start of a function
abbrev pub begun : {P : Type 0} → Object → List (Register P) → Frame P
begun object registers = record { file = object.file; func = object.index; block = 0; place = 0; registers = registers }

-- the frame of a call of a function that a module defines
abbrev pub callee_frame : {P : Type 0} → List Module → Object → FuncTy → List (Value P) → Option (Frame P)
callee_frame modules object fty args = do
  f ← function_at modules object.file object.index
  registers ← bound [] f.params args
  if object.function && is_callable f fty then Some (begun object registers) else None

-- the first of some functions that is a declaration of this name
abbrev pub declaration_in : List Func → List ℕ → Option Func
declaration_in [] name = None
declaration_in (f ∷ rest) name = if pointwise nat_eq f.name name && length f.blocks == 0 then Some f else declaration_in rest name

-- the first declaration of a name
abbrev pub declaration_of : List Module → List ℕ → Option Func
declaration_of [] name = None
declaration_of (m ∷ rest) name = option_or (declaration_in m.funcs name) (declaration_of rest name)

abbrev pub is_declared_as : Option Func → FuncTy → Bool
is_declared_as None fty = false
is_declared_as (Some f) fty = same_func_ty f.fty fty

-- an external function of the written type that may be called
abbrev pub is_external : List Module → List ℕ → FuncTy → Bool
is_external modules name fty = not (is_pure_virtual name) && is_declared_as (declaration_of modules name) fty
