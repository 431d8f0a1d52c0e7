-- The size and the alignment of a type, in bytes.
use Rattle.std.specs.Prelude.{ℕ}
use Rattle.ir_values.specs.declared.types.Ty.{Ty}
use Rattle.ir_numbers.specs.Layout.{layout}

abbrev pub size_of : Ty → ℕ
size_of ty = (layout ty).size

abbrev pub align_of : Ty → ℕ
align_of ty = (layout ty).align
