-- What a call calls.
-- Source: LLVM Language Reference, "'call' Instruction" and "Intrinsic Functions". Differs: an intrinsic is called by its name alone.
use Rattle.std.specs.Prelude.{ℕ, Bool, true, false, not, ◌||◌, cond, List, Option, Some, None}
use Rattle.ltt_base.specs.declared.refusal.Placed.{Placed}
use Rattle.ir_values.specs.declared.constants.Const.{Const, out-Const}
use Rattle.ir_values.specs.declared.constants.Const.TheOpen.{Const-F}
use Rattle.ir_values.specs.declared.constants.Operand.{Operand}
use Rattle.ir_values.specs.declared.constants.Operand.TheVariants as operand
use Rattle.ir_values.specs.declared.units.Unit.{Unit}
use Rattle.ir_values.specs.declared.units.Head.{Head}
use Rattle.ir_values.specs.declared.units.Form.{Form}
use Rattle.ir_values.specs.declared.units.Form.TheVariants as form
use Rattle.check_names.specs.declared.spaces.Space.TheVariants.{Globals}
use Rattle.check_names.specs.Spaces.{first_unit}
use Rattle.check_constants.specs.declared.intrinsics.Intrinsic.{Intrinsic}
use Rattle.check_constants.specs.Intrinsics.{intrinsic_of, is_declared_intrinsic}
use Rattle.check_constants.specs.Callees.{callee_of}

-- the head of a function that is declared or defined
abbrev pub function_head : Form → Option Head
function_head (form.DeclareForm head) = Some head
function_head (form.DefineForm head) = Some head
function_head _ = None

abbrev pub unit_function : Option (Placed Unit) → Option Head
unit_function None = None
unit_function (Some u) = function_head u.value.form

-- the function of a name
abbrev pub function_of : List (Placed Unit) → List ℕ → Option Head
function_of us name = unit_function (first_unit Globals name us)

-- a constant that is the name of a global
abbrev pub is_name : Const-F Const Operand → Bool
is_name (Const-F.Addr name offset) = true
is_name _ = false

-- a function may be called by any constant that comes to its address, an intrinsic by its name alone
abbrev pub may_call : List (Placed Unit) → Const → List ℕ → Bool
may_call us constant name = not (is_declared_intrinsic us name) || is_name (out-Const constant)

abbrev pub named_function : List (Placed Unit) → Const → Option (List ℕ) → Option Head
named_function us constant None = None
named_function us constant (Some name) = cond (may_call us constant name) (function_of us name) None

-- the function that is called directly
abbrev pub called : List (Placed Unit) → Operand → Option Head
called us (operand.Reg name) = None
called us (operand.Const constant) = named_function us constant (callee_of us constant)

-- the intrinsic that is called
abbrev pub called_intrinsic : Bool → List (Placed Unit) → Option Head → Option Intrinsic
called_intrinsic output us None = None
called_intrinsic output us (Some function) = cond (is_declared_intrinsic us function.name) (intrinsic_of output function.name) None
