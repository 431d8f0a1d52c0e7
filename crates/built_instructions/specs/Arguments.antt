-- The arguments of calls, as a module keeps them.
-- Source: LLVM Language Reference, "'call' Instruction", "Metadata Nodes and Metadata Strings" and "'llvm.type.test' Intrinsic".
use Rattle.std.specs.Prelude.{ℕ, List, [], slice_get, Option, Some, None}
use Rattle.std.specs.List.{filter_map}
use Rattle.ltt_base.specs.declared.refusal.Placed.{Placed}
use Rattle.ir_values.specs.declared.types.Ty.{Ty}
use Rattle.ir_values.specs.declared.constants.Const.TheVariants.{Null}
use Rattle.ir_values.specs.declared.constants.Operand.{Operand}
use Rattle.ir_values.specs.declared.constants.Operand.TheVariants as operand
use Rattle.ir_values.specs.declared.modules.TypeId.{TypeId}
use Rattle.ir_values.specs.declared.modules.TypeId.TheVariants as id
use Rattle.ir_values.specs.declared.units.Unit as unit
use Rattle.ir_values.specs.declared.units.Arg.{Arg}
use Rattle.ir_values.specs.declared.units.Arg.TheVariants.{Value, Word, Node}
use Rattle.check_types.specs.Replaced.{replaced}
use Rattle.kept_parts.specs.NodeNumbers.{node_number}
use Rattle.kept_parts.specs.ArgumentValues.{argument_kept}
use Rattle.built_instructions.specs.Values.{number_in}

-- the values among the arguments
abbrev pub values_kept : List (Placed unit.Unit) → List Arg → List Operand
values_kept us args = filter_map (argument_kept us) args

-- the type of a value; metadata has none
abbrev pub argument_type : List (Placed unit.Unit) → Arg → Option Ty
argument_type us (Value ty left value) = Some (replaced us ty)
argument_type us (Word text) = None
argument_type us (Node name) = None

-- the types of the values among the arguments
abbrev pub types_kept : List (Placed unit.Unit) → List Arg → List Ty
types_kept us args = filter_map (argument_type us) args

abbrev pub value_or : Option Operand → Operand
value_or None = operand.Const Null
value_or (Some value) = value

abbrev pub value_in : List (Placed unit.Unit) → Option Arg → Operand
value_in us None = operand.Const Null
value_in us (Some arg) = value_or (argument_kept us arg)

-- the value at a place among the arguments
abbrev pub value_at : List (Placed unit.Unit) → List Arg → ℕ → Operand
value_at us args at = value_in us (slice_get args at)

-- the number at a place among the arguments
abbrev pub number_at : List (Placed unit.Unit) → List Arg → ℕ → ℕ
number_at us args at = number_in (value_at us args at)

-- metadata as an identifier: a string by its bytes, a node by its file and its number
abbrev pub id_of : ℕ → Arg → TypeId
id_of file (Word text) = id.Name text
id_of file (Node digits) = id.Node file (node_number digits)
id_of file (Value ty left value) = id.Name []

abbrev pub id_in : ℕ → Option Arg → TypeId
id_in file None = id.Name []
id_in file (Some arg) = id_of file arg

-- the identifier at a place among the arguments
abbrev pub id_at : ℕ → List Arg → ℕ → TypeId
id_at file args at = id_in file (slice_get args at)
