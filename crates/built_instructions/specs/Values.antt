-- Widths and numbers as instructions keep them.
-- Source: LLVM Language Reference, "Integer Type" and "Simple Constants". Differs: what has a flaw gives some width and some number.
use Rattle.std.specs.Prelude.{ℕ, ◌%◌, ◌^◌, ℤ, List, Option, Some, None}
use Rattle.ltt_base.specs.declared.refusal.Placed.{Placed}
use Rattle.ir_values.specs.declared.types.Width.{Width}
use Rattle.ir_values.specs.declared.types.Width.TheVariants.{W64}
use Rattle.ir_values.specs.declared.types.Ty.{Ty}
use Rattle.ir_values.specs.declared.constants.Const.{Const, out-Const}
use Rattle.ir_values.specs.declared.constants.Const.TheOpen.{Const-F}
use Rattle.ir_values.specs.declared.constants.Operand.{Operand}
use Rattle.ir_values.specs.declared.constants.Operand.TheVariants as operand
use Rattle.ir_values.specs.declared.units.Unit as unit
use Rattle.ir_numbers.specs.Numbers.{signed}
use Rattle.check_types.specs.Heads.{head}
use Rattle.kept_parts.specs.Widths.{width_of}

abbrev pub width_or : Option Width → Width
width_or None = W64
width_or (Some width) = width

-- the width of the integers that a written type stands for
abbrev pub width_at : List (Placed unit.Unit) → Ty → Width
width_at us ty = width_or (width_of (head us ty))

abbrev pub number_or : Option ℕ → ℕ
number_or None = 0
number_or (Some n) = n

abbrev pub layer_number : Const-F Const Operand → ℕ
layer_number (Const-F.Int width n) = n
layer_number _ = 0

-- the number that a kept operand is
abbrev pub number_in : Operand → ℕ
number_in (operand.Reg name) = 0
number_in (operand.Const constant) = layer_number (out-Const constant)

-- the lowest 8 bits of a number
abbrev pub byte_of : ℕ → ℕ
byte_of n = n % 256

-- the lowest 32 bits of a number, in two's complement
abbrev pub offset_of : ℕ → ℤ
offset_of n = signed 32 (n % 2 ^ 32)
