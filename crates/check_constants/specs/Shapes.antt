-- The types at which constants of each form may stand.
-- Source: LLVM Language Reference, "Simple Constants" and "Complex Constants".
use Rattle.std.specs.Prelude.{ℕ, nat_eq, Bool, true, false, not, ◌&&◌, List, length, Option, Some, None}
use Rattle.ltt_base.specs.declared.refusal.Placed.{Placed}
use Rattle.ir_values.specs.declared.types.Width.{Width}
use Rattle.ir_values.specs.declared.types.Width.TheVariants.{W1}
use Rattle.ir_values.specs.declared.types.Ty.{Ty, out-Ty}
use Rattle.ir_values.specs.declared.types.Ty.TheVariants.{Int, Ptr}
use Rattle.ir_values.specs.declared.types.Ty.TheOpen.{Ty-F}
use Rattle.ir_values.specs.declared.units.Unit as unit
use Rattle.ir_numbers.specs.Numbers.{bits}
use Rattle.check_types.specs.Heads.{head}
use Rattle.check_types.specs.Differences.{differ}
use Rattle.check_constants.specs.declared.expected.Expected.{Expected}
use Rattle.check_constants.specs.declared.expected.Expected.TheVariants.{Unknown, Pointer, Bit, Written}
use Rattle.check_constants.specs.Keeping.{is_byte_layer}

-- a known type that fails a test
abbrev pub is_other : (Ty-F Ty → Bool) → Option Ty → Bool
is_other test None = false
is_other test (Some ty) = not (test (out-Ty ty))

abbrev pub is_width : Width → Ty-F Ty → Bool
is_width width (Ty-F.Int other) = nat_eq (bits width) (bits other)
is_width width _ = false

-- an array or a struct of so many parts
abbrev pub is_array : ℕ → Ty-F Ty → Bool
is_array many (Ty-F.Array parts part) = nat_eq many parts
is_array many _ = false

abbrev pub is_struct : ℕ → Ty-F Ty → Bool
is_struct many (Ty-F.Struct parts) = nat_eq many (length parts)
is_struct many _ = false

-- `i8`, or what isn't known
abbrev pub is_byte_or_unknown : Option Ty → Bool
is_byte_or_unknown None = true
is_byte_or_unknown (Some ty) = is_byte_layer (out-Ty ty)

abbrev pub are_bytes : List (Placed unit.Unit) → ℕ → Ty-F Ty → Bool
are_bytes us many (Ty-F.Array parts part) = nat_eq many parts && is_byte_or_unknown (head us part)
are_bytes us many _ = false

-- a written type that differs from that of its place
abbrev pub is_different : List (Placed unit.Unit) → Option Ty → Option Ty → Bool
is_different us (Some own) (Some ty) = differ us own ty
is_different us _ _ = false

-- the type of a place
abbrev pub type_at : Expected → Option Ty
type_at Unknown = None
type_at Pointer = Some Ptr
type_at Bit = Some (Int W1)
type_at (Written ty) = Some ty.now
