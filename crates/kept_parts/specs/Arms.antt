-- The arms of phis, as a module keeps them.
-- Source: LLVM Language Reference, "'phi' Instruction".
use Rattle.std.specs.Prelude.{ℕ, List, map}
use Rattle.ltt_base.specs.declared.refusal.Placed.{Placed}
use Rattle.ir_values.specs.declared.types.Ty.{Ty}
use Rattle.ir_values.specs.declared.constants.Operand.{Operand}
use Rattle.ir_values.specs.declared.units.Unit.{Unit}
use Rattle.check_operands.specs.Operands.{operand_kept}

-- a value and the label of the block that it comes from
abbrev pub Arm : Type 0
Arm = Operand × List ℕ

-- the arms with their values as a module keeps them
abbrev pub kept_arms : List (Placed Unit) → Ty → List Arm → List Arm
kept_arms us ty = map (λ arm. (operand_kept us ty arm.0, arm.1))
