-- The flaws of a constant where a type is written before it.
use Rattle.std.specs.Prelude.{Bool, List, Option}
use Rattle.ltt_base.specs.declared.refusal.Placed.{Placed}
use Rattle.ir_values.specs.declared.types.Ty.{Ty}
use Rattle.ir_values.specs.declared.constants.Const.{Const}
use Rattle.ir_values.specs.declared.units.Unit as unit
use Rattle.check_names.specs.declared.flaws.Flaw.{Flaw}
use Rattle.check_types.specs.declared.places.Allowed.TheVariants.{NonVoid}
use Rattle.check_constants.specs.Constants.{weighed}

-- in an output or a source, in a unit that is quiet or isn't, at a type; None where that isn't known
abbrev pub constant_flaw : Bool → List (Placed unit.Unit) → Bool → Option Ty → Const → Option Flaw
constant_flaw output us quiet ty constant = (weighed constant).flaw output us quiet NonVoid ty
