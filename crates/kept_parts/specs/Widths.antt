-- The widths of integers.
use Rattle.std.specs.Prelude.{Option, Some, None}
use Rattle.ir_values.specs.declared.types.Width.{Width}
use Rattle.ir_values.specs.declared.types.Ty.{Ty, out-Ty}
use Rattle.ir_values.specs.declared.types.Ty.TheOpen.{Ty-F}

abbrev pub layer_width : Ty-F Ty → Option Width
layer_width (Ty-F.Int width) = Some width
layer_width _ = None

-- the width of a known type of integers
abbrev pub width_of : Option Ty → Option Width
width_of None = None
width_of (Some ty) = layer_width (out-Ty ty)
