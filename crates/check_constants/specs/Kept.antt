-- Constants as a module keeps them, and as indices.
use Rattle.std.specs.Prelude.{List, Option}
use Rattle.ltt_base.specs.declared.refusal.Placed.{Placed}
use Rattle.ir_values.specs.declared.types.Ty.{Ty}
use Rattle.ir_values.specs.declared.constants.Const.{Const}
use Rattle.ir_values.specs.declared.units.Unit as unit
use Rattle.check_constants.specs.declared.indices.Index.{Index}
use Rattle.check_constants.specs.Constants.{weighed}

-- at a type; None where that isn't known
abbrev pub kept : List (Placed unit.Unit) → Option Ty → Const → Const
kept us ty constant = (weighed constant).kept us ty

abbrev pub index_of : List (Placed unit.Unit) → Option Ty → Const → Index
index_of us ty constant = (weighed constant).index us ty
