-- Which names are those of functions of a module, and which of intrinsics that its text declares.
use Rattle.std.proofs.Common.{◌≡◌, ℕ, true, false, List, Some}
use Rattle.ir_values.specs.declared.modules.Func.{Func}
use Rattle.ir_values.specs.declared.units.Head.{Head}
use Rattle.check_constants.specs.Intrinsics.{is_declared_intrinsic}
use Rattle.kept_parts.specs.Called.{function_of}
use Rattle.printed_modules.specs.Printed.{is_function, is_called_name}
use Rattle.sized_modules.proofs.UnitLemmas.{Units}

-- the units declare or define a function of this name, which is no intrinsic
pub record IsPlainFunction (us : Units) (name : List ℕ) : Type 0 where
  pub own : Head
  pub is : function_of us name ≡ Some own
  pub plain : is_declared_intrinsic us name ≡ false

-- the functions of a module are those of the units
pub record KnowsFunctions (us : Units) (funcs : List Func) : Type 0 where
  pub has : (name : List ℕ) → IsPlainFunction us name → is_function funcs name ≡ true
  pub only : (name : List ℕ) → is_function funcs name ≡ true → IsPlainFunction us name
  pub intrinsics : (name : List ℕ) → is_called_name funcs name ≡ true → is_declared_intrinsic us name ≡ true
