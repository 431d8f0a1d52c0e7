-- Sizes, alignments and offsets, in bytes. Struct types use natural alignment, and arrays have no gaps.
use Rattle.std.specs.Prelude.{ℕ, ◌+◌, ◌*◌, ◌/◌, ◌^◌, nat_le, max, Bool, true, false, ◌&&◌, List, [], ◌∷◌, map, IsTrue}
use Rattle.std.specs.List.{list_all}
use Rattle.std.specs.Int.{next_multiple_of}
use Rattle.ir_values.specs.declared.types.Width.{Width}
use Rattle.ir_values.specs.declared.types.Ty.{Ty, fold-Ty, out-Ty}
use Rattle.ir_values.specs.declared.types.Ty.TheOpen.{Ty-F}
use Rattle.ir_numbers.specs.Numbers.{bits}

-- what a type takes; `is_laid` where it and its parts are integers, pointers, arrays or structs of 2^27 bytes at most
pub record Layout : Type 0 where
  pub size : ℕ
  pub align : ℕ
  pub is_laid : Bool

-- an integer takes whole bytes
abbrev pub width_bytes : Width → ℕ
width_bytes w = (bits w + 7) / 8

abbrev pub scalar : ℕ → Layout
scalar n = record { size = n; align = n; is_laid = true }

abbrev pub within : ℕ → ℕ → Bool → Layout
within size align parts_laid = record { size = size; align = align; is_laid = parts_laid && nat_le size (2 ^ 27) }

-- where the parts of a struct begin, the first of them at `at` or above: each at a multiple of its alignment
abbrev pub offsets : ℕ → List Layout → List ℕ
offsets at [] = []
offsets at (part ∷ parts) = next_multiple_of at part.align ∷ offsets (next_multiple_of at part.align + part.size) parts

-- where the last of them ends
abbrev pub end_of : ℕ → List Layout → ℕ
end_of at [] = at
end_of at (part ∷ parts) = end_of (next_multiple_of at part.align + part.size) parts

-- the greatest alignment of the parts and of `least`
abbrev pub greatest_align : ℕ → List Layout → ℕ
greatest_align least [] = least
greatest_align least (part ∷ parts) = greatest_align (max least part.align) parts

-- a struct ends at a multiple of its alignment
abbrev pub struct_layout : List Layout → Layout
struct_layout parts =
    within (next_multiple_of (end_of 0 parts) (greatest_align 1 parts)) (greatest_align 1 parts) (list_all (λ part. part.is_laid) parts)

abbrev pub layout_step : Ty-F Layout → Layout
layout_step (Ty-F.Int w) = scalar (width_bytes w)
layout_step Ty-F.Ptr = scalar 8
layout_step (Ty-F.Array n part) = within (n * part.size) part.align part.is_laid
layout_step (Ty-F.Struct parts) = struct_layout parts
layout_step _ = record { size = 0; align = 1; is_laid = false }

-- Source: LLVM Language Reference, "Data Layout" and "Aggregate Types". Differs: one data layout, in which `ptr` has 8 bytes
-- and integers of 16 bits and more are aligned to their size.
abbrev pub layout : Ty → Layout
layout = fold-Ty Layout layout_step

-- made of integers, pointers, arrays and structs alone, each of 2^27 bytes at most
abbrev pub IsLaidOut : Ty → Type 0
IsLaidOut ty = IsTrue (layout ty).is_laid

abbrev pub parts_of : Ty-F Ty → List Ty
parts_of (Ty-F.Struct parts) = parts
parts_of _ = []

-- the offsets of a struct's parts; no other type has one
abbrev pub field_offsets : Ty → List ℕ
field_offsets ty = offsets 0 (map layout (parts_of (out-Ty ty)))
