-- The types of registers.
-- Source: LLVM Language Reference, "Instruction Reference" and "Functions".
use Rattle.std.specs.Prelude.{ℕ, nat_eq, cond, List, slice_get, Option, Some, None}
use Rattle.ltt_base.specs.declared.refusal.Placed.{Placed}
use Rattle.ir_values.specs.declared.types.Ty.{Ty}
use Rattle.ir_values.specs.declared.types.Ty.TheVariants.{Ptr}
use Rattle.ir_values.specs.declared.units.Unit.{Unit}
use Rattle.ir_values.specs.declared.units.Param.{Param}
use Rattle.ir_values.specs.declared.units.Head.{Head}
use Rattle.ir_values.specs.declared.units.Form.{Form}
use Rattle.ir_values.specs.declared.units.Form.TheVariants as form
use Rattle.check_bodies.specs.declared.names.Local.{Local}
use Rattle.check_bodies.specs.declared.names.Local.TheVariants.{Parameter, Result}
use Rattle.check_bodies.specs.declared.names.Asked.TheVariants.{Values}
use Rattle.check_bodies.specs.Names.{first_local, names_of}
use Rattle.check_operands.specs.Made.{bit, long}

-- the head that a form defines a function with
abbrev pub defined_head : Form → Option Head
defined_head (form.DefineForm head) = Some head
defined_head _ = None

abbrev pub unit_head : Option (Placed Unit) → Option Head
unit_head None = None
unit_head (Some u) = defined_head u.value.form

-- the head at a place
abbrev pub head_at : List (Placed Unit) → ℕ → Option Head
head_at us at = unit_head (slice_get us at)

abbrev pub param_type : Option Param → Option Ty
param_type None = None
param_type (Some param) = Some param.ty

abbrev pub parameter_type : Option Head → ℕ → Option Ty
parameter_type None at = None
parameter_type (Some head) at = param_type (slice_get head.params at)

-- a part of what a checked load gives
abbrev pub extracted_type : Option ℕ → Option Ty
extracted_type None = None
extracted_type (Some part) = cond (nat_eq part 0) (Some Ptr) (cond (nat_eq part 1) (Some bit) None)

-- the type of an instruction's result
abbrev pub result_type : Form → Option Ty
result_type (form.BinaryForm dst op ty a b) = Some ty
result_type (form.CompareForm dst pred ty a b) = Some bit
result_type (form.SelectForm dst cond_ty test ty a other_ty b) = Some ty
result_type (form.CastForm dst op from a to) = Some to
result_type (form.AddressForm dst ty base index) = Some Ptr
result_type (form.LoadForm dst ty addr) = Some ty
result_type (form.CallForm dst result whole dots callee args bundle) = Some result
result_type (form.ExtractForm dst value part) = extracted_type part
result_type (form.PhiForm dst ty arms) = Some ty
result_type (form.NumberForm dst value) = Some long
result_type _ = None

abbrev pub unit_type : Option (Placed Unit) → Option Ty
unit_type None = None
unit_type (Some u) = result_type u.value.form

abbrev pub local_type : List (Placed Unit) → ℕ → Option Local → Option Ty
local_type us head (Some (Parameter at)) = parameter_type (head_at us head) at
local_type us head (Some (Result at)) = unit_type (slice_get us at)
local_type us head _ = None

-- the type of the value that a name stands for in the function whose head stands at a place; None where it isn't known
abbrev pub register_type : List (Placed Unit) → ℕ → List ℕ → Option Ty
register_type us head name = local_type us head (first_local Values name (names_of us head))
