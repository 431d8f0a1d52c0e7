-- What is found of a constant from what is found of its parts.
use Rattle.std.specs.Prelude.{ℕ, Bool, List, Option}
use Rattle.ltt_base.specs.declared.refusal.Placed.{Placed}
use Rattle.ir_values.specs.declared.types.Ty.{Ty}
use Rattle.ir_values.specs.declared.constants.Const.{Const}
use Rattle.ir_values.specs.declared.units.Unit as unit
use Rattle.check_names.specs.declared.flaws.Flaw.{Flaw}
use Rattle.check_types.specs.declared.places.Allowed.{Allowed}
use Rattle.check_constants.specs.declared.indices.Index.{Index}

-- Each for the units of the file and, where it leans on it, the type of the constant's place; None where that isn't known.
pub record Weighed : Type 0 where
  -- the type that is written before it, where one is
  pub written : Option Ty
  -- the constant as an index
  pub index : List (Placed unit.Unit) → Option Ty → Index
  -- the global at whose address it begins, the bytes from there, and whether it begins at null
  pub global : Option (List ℕ)
  pub offset : List (Placed unit.Unit) → ℕ
  pub is_null : List (Placed unit.Unit) → Bool
  -- the constant as a module keeps it
  pub kept : List (Placed unit.Unit) → Option Ty → Const
  -- its flaws in an output or a source, in a unit that is quiet or isn't; a written type before it may be one of those allowed
  pub flaw : Bool → List (Placed unit.Unit) → Bool → Allowed → Option Ty → Option Flaw
