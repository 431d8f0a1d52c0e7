-- What the check of a unit knows of its file.
use Rattle.std.specs.Prelude.{Bool, List}
use Rattle.ltt_base.specs.declared.refusal.Placed.{Placed}
use Rattle.ir_values.specs.declared.units.Unit as unit

-- the units of a file, and whether it is an output
pub record File : Type 0 where
  pub output : Bool
  pub units : List (Placed unit.Unit)
