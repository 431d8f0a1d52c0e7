-- The cells that an initialiser gives its variable.
use Rattle.std.specs.Prelude.{ℕ, ◌-◌, ◌%◌, max, List, [], ◌∷◌, ◌++◌, length, map, replicate, if◌then◌else◌, Option, Some, None}
use Rattle.ir_values.specs.declared.types.Ty.{Ty}
use Rattle.ir_values.specs.declared.constants.Const.{Const, fold-Const}
use Rattle.ir_values.specs.declared.constants.Const.TheOpen.{Const-F}
use Rattle.ir_numbers.specs.Layout.{layout}
use Rattle.type_metadata.specs.declared.items.Item.{Item}
use Rattle.ir_memories.specs.declared.values.Value.{Value}
use Rattle.ir_memories.specs.declared.values.Value.TheVariants as value
use Rattle.ir_memories.specs.declared.symbolic.SPtr.{SPtr}
use Rattle.ir_memories.specs.declared.symbolic.SPtr.TheVariants.{Null}
use Rattle.ir_memories.specs.declared.cells.Cell.{Cell}
use Rattle.ir_memories.specs.declared.cells.Cell.TheVariants.{Byte}
use Rattle.ir_memories.specs.declared.images.Image.{Image}
use Rattle.ir_memories.specs.Cells.{cells_in, cells_from}
use Rattle.ir_memories.specs.Symbolic.{pointer_to}

abbrev pub zeros : ℕ → List Cell
zeros n = replicate n (Byte 0)

-- zeros up to the next multiple of an alignment
abbrev pub gap_behind : ℕ → ℕ → ℕ
gap_behind size align = (align - size % align) % align

abbrev pub padded : List Cell → ℕ → List Cell
padded cells align = cells ++ zeros (gap_behind (length cells) align)

-- a value alone, aligned to its size
abbrev pub of_value : Value SPtr → Image
of_value v = record { align = max 1 (cells_in v); cells = cells_from v 0 (cells_in v) }

abbrev pub empty : Image
empty = record { align = 1; cells = [] }

abbrev pub align_in : Ty → ℕ
align_in ty = if (layout ty).is_laid then (layout ty).align else 1

abbrev pub zero_image : Ty → Image
zero_image ty = if (layout ty).is_laid then record { align = (layout ty).align; cells = zeros (layout ty).size } else empty

-- the parts of an array, without gaps
abbrev pub joined : List Cell → List Image → List Cell
joined cells [] = cells
joined cells (part ∷ parts) = joined (cells ++ part.cells) parts

abbrev pub array_image : Ty → List Image → Image
array_image ty parts = record { align = align_in ty; cells = joined [] parts }

-- the parts of a struct, each behind zeros up to its alignment, and zeros up to the greatest behind the last
abbrev pub laid : ℕ → List Cell → List Image → Image
laid align cells [] = record { align = align; cells = padded cells align }
laid align cells (part ∷ parts) = laid (max align part.align) (padded cells part.align ++ part.cells) parts

abbrev pub bytes_image : List ℕ → Image
bytes_image bytes = record { align = 1; cells = map Byte bytes }

-- what stands for the address of a name and an offset
abbrev pub Addresses : Type 0
Addresses = List ℕ → ℕ → Value SPtr

-- in a file of the source: a pointer
abbrev pub source_address : List Item → ℕ → Addresses
source_address items file name offset = value.Ptr (pointer_to items file name offset)

abbrev pub image_step : Addresses → Const-F Image Image → Image
image_step address (Const-F.Int width n) = of_value (value.Int width n)
image_step address Const-F.Null = of_value (value.Ptr Null)
image_step address (Const-F.Addr name offset) = of_value (address name offset)
image_step address (Const-F.Number name offset) = of_value (address name offset)
image_step address (Const-F.Zero ty) = zero_image ty
image_step address (Const-F.Array ty parts) = array_image ty parts
image_step address (Const-F.Struct parts) = laid 1 [] parts
image_step address (Const-F.Bytes bytes) = bytes_image bytes
image_step address _ = empty

-- the image of a constant
abbrev pub image : Addresses → Const → Image
image address = fold-Const Image Image (image_step address) (λ operand. empty)

abbrev pub cells_of : Addresses → Option Const → List Cell
cells_of address None = []
cells_of address (Some init) = (image address init).cells
