-- The values of arguments, as a module keeps them.
-- Source: LLVM Language Reference, "'call' Instruction".
use Rattle.std.specs.Prelude.{List, Option, Some, None}
use Rattle.ltt_base.specs.declared.refusal.Placed.{Placed}
use Rattle.ir_values.specs.declared.constants.Operand.{Operand}
use Rattle.ir_values.specs.declared.units.Unit.{Unit}
use Rattle.ir_values.specs.declared.units.Arg.{Arg}
use Rattle.ir_values.specs.declared.units.Arg.TheVariants.{Value, Word, Node}
use Rattle.check_operands.specs.Operands.{operand_kept}

-- an argument's value as a module keeps it; metadata has none
abbrev pub argument_kept : List (Placed Unit) → Arg → Option Operand
argument_kept us (Value ty left value) = Some (operand_kept us ty value)
argument_kept us (Word text) = None
argument_kept us (Node name) = None
