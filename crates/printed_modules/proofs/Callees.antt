-- What is known of the functions that calls in a printed module name.
use Rattle.std.proofs.Common.{◌≡◌, ℕ, true, false, List, Some, None}
use Rattle.ltt_base.specs.declared.refusal.Placed.{Placed}
use Rattle.ir_values.specs.declared.units.Unit.{Unit as TheUnit}
use Rattle.ir_values.specs.declared.units.Head.{Head}
use Rattle.ir_values.specs.declared.units.Form.TheVariants.{DeclareForm}
use Rattle.ir_values.specs.declared.modules.Module.{Module}
use Rattle.ir_print.specs.declared.intrinsics.Intrinsic.{Intrinsic}
use Rattle.ir_print.specs.ModuleText.{is_called}
use Rattle.check_names.specs.Reserved.{is_intrinsic}
use Rattle.check_names.specs.Spaces.{first_unit}
use Rattle.check_names.specs.declared.spaces.Space.TheVariants.{Globals}
use Rattle.kept_parts.specs.Called.{function_of}
use Rattle.printed_modules.specs.Printed.{is_function, is_called_name, intrinsic_name}

-- the units have a function of this name
pub record HasFunction (us : List (Placed TheUnit)) (name : List ℕ) : Type 0 where
  pub head : Head
  pub is : function_of us name ≡ Some head
  pub named : head.name ≡ name

-- the first unit of this name declares a function of this name
pub record HasIntrinsic (us : List (Placed TheUnit)) (name : List ℕ) : Type 0 where
  pub u : Placed TheUnit
  pub head : Head
  pub first : first_unit Globals name us ≡ Some u
  pub declares : u.value.form ≡ DeclareForm head
  pub named : head.name ≡ name

pub record Knows (us : List (Placed TheUnit)) (m : Module) : Type 0 where
  pub functions : (name : List ℕ) → is_function m.funcs name ≡ true → HasFunction us name
  pub plain : (name : List ℕ) → is_function m.funcs name ≡ true → is_intrinsic name ≡ false
  pub others : (name : List ℕ) → is_function m.funcs name ≡ false → is_called_name m.funcs name ≡ false → function_of us name ≡ None
  pub intrinsics : (intrinsic : Intrinsic) → is_called intrinsic m.funcs ≡ true → HasIntrinsic us (intrinsic_name intrinsic)
