-- Cells, and the values that stand in them. Integers are little-endian, null is eight zero bytes, and another pointer is
-- its eight parts in order.
use Rattle.std.specs.Prelude.{ℕ, zero, suc, ◌+◌, ◌-◌, ◌*◌, ◌/◌, ◌%◌, ◌^◌, Bool, true, false, nat_eq, nat_le, nat_lt, ◌&&◌, List, [], ◌∷◌, length, take, drop, Option, Some, None, option_map, if◌then◌else◌}
use Rattle.ir_values.specs.declared.types.Width.{Width}
use Rattle.ir_values.specs.declared.types.Width.TheVariants.{W1, W8, W16, W32, W64}
use Rattle.ir_values.specs.declared.types.Ty.{Ty, out-Ty}
use Rattle.ir_values.specs.declared.types.Ty.TheOpen.{Ty-F}
use Rattle.ir_numbers.specs.Layout.{width_bytes}
use Rattle.type_metadata.specs.Same.{same_object}
use Rattle.ir_memories.specs.declared.values.Value.{Value}
use Rattle.ir_memories.specs.declared.values.Value.TheVariants as value
use Rattle.ir_memories.specs.declared.symbolic.SPtr.{SPtr}
use Rattle.ir_memories.specs.declared.symbolic.SPtr.TheVariants.{Null, At}
use Rattle.ir_memories.specs.declared.cells.Cell.{Cell}
use Rattle.ir_memories.specs.declared.cells.Cell.TheVariants.{Byte, Part}

-- the number that bytes write; parts of a pointer write none
abbrev pub number : List Cell → Option ℕ
number [] = Some 0
number (Byte byte ∷ cells) = option_map (λ high. byte + 256 * high) (number cells)
number (Part p k ∷ cells) = None

abbrev pub same_pointer : SPtr → SPtr → Bool
same_pointer Null Null = true
same_pointer (At one offset) (At other offset') = same_object one other && nat_eq offset offset'
same_pointer _ _ = false

abbrev pub is_part : SPtr → ℕ → Cell → Bool
is_part p k (Byte byte) = false
is_part p k (Part q j) = same_pointer q p && nat_eq j k

-- the parts of a pointer from part k on
abbrev pub are_parts : SPtr → ℕ → List Cell → Bool
are_parts p k [] = true
are_parts p k (cell ∷ cells) = is_part p k cell && are_parts p (k + 1) cells

abbrev pub null_if_zero : Option ℕ → Option SPtr
null_if_zero None = None
null_if_zero (Some n) = if nat_eq n 0 then Some Null else None

abbrev pub pointer : List Cell → Option SPtr
pointer [] = None
pointer (Byte byte ∷ cells) = null_if_zero (number (Byte byte ∷ cells))
pointer (Part p k ∷ cells) = if are_parts p 0 (Part p k ∷ cells) then Some p else None

-- so many cells from a place on
abbrev pub window : List Cell → ℕ → ℕ → Option (List Cell)
window cells at n = if nat_le (at + n) (length cells) then Some (take n (drop at cells)) else None

-- the lowest bits of a number, as many as the width has
abbrev pub low_part : Width → ℕ → ℕ
low_part W1 n = n % 2
low_part W8 n = n % 256
low_part W16 n = n % 65536
low_part W32 n = n % 4294967296
low_part W64 n = n

abbrev pub integer_in : Width → Option (List Cell) → Option (Value SPtr)
integer_in width None = None
integer_in width (Some cells) = option_map (λ n. value.Int width (low_part width n)) (number cells)

abbrev pub pointer_in : Option (List Cell) → Option (Value SPtr)
pointer_in None = None
pointer_in (Some cells) = option_map value.Ptr (pointer cells)

abbrev pub typed : Ty-F Ty → List Cell → ℕ → Option (Value SPtr)
typed (Ty-F.Int width) cells at = integer_in width (window cells at (width_bytes width))
typed Ty-F.Ptr cells at = pointer_in (window cells at 8)
typed _ cells at = None

-- the value of a type at a place
abbrev pub read : Ty → List Cell → ℕ → Option (Value SPtr)
read ty cells at = typed (out-Ty ty) cells at

-- how many cells a value takes; a pair isn't stored
abbrev pub cells_in : Value SPtr → ℕ
cells_in (value.Int width n) = width_bytes width
cells_in (value.Ptr p) = 8
cells_in (value.Pair p flag) = 0

abbrev pub is_stored : Value SPtr → Bool
is_stored (value.Pair p flag) = false
is_stored _ = true

abbrev pub pointer_cell : SPtr → ℕ → Cell
pointer_cell Null k = Byte 0
pointer_cell (At object offset) k = Part (At object offset) k

-- cell k of a value
abbrev pub cell_at : Value SPtr → ℕ → Cell
cell_at (value.Int width n) k = Byte (n / 2 ^ (8 * k) % 256)
cell_at (value.Ptr p) k = pointer_cell p k
cell_at (value.Pair p flag) k = Byte 0

-- n cells of a value, from cell k on
abbrev pub cells_from : Value SPtr → ℕ → ℕ → List Cell
cells_from v k zero = []
cells_from v k (suc n) = cell_at v k ∷ cells_from v (k + 1) n

-- the cells from number i on, where n from `at` on are those of a value
abbrev pub written : ℕ → ℕ → Value SPtr → ℕ → List Cell → List Cell
written at n v i [] = []
written at n v i (cell ∷ cells) =
    (if nat_le at i && nat_lt i (at + n) then cell_at v (i - at) else cell) ∷ written at n v (i + 1) cells
