-- The parts of types, with the names followed that stand for the whole of one.
-- Source: LLVM Language Reference, "Aggregate Types" and "Data Layout".
use Rattle.std.specs.Prelude.{ℕ, zero, suc, ◌+◌, List, [], ◌∷◌, slice_get, Option, Some, None}
use Rattle.std.specs.Int.{next_multiple_of}
use Rattle.ltt_base.specs.declared.refusal.Placed.{Placed}
use Rattle.ir_values.specs.declared.types.Ty.{Ty, out-Ty}
use Rattle.ir_values.specs.declared.types.Ty.TheOpen.{Ty-F}
use Rattle.ir_values.specs.declared.units.Unit as unit
use Rattle.check_types.specs.Heads.{head}
use Rattle.check_types.specs.Measures.{size, align}

-- the part of an array at any place, or that of a struct at a place in it
abbrev pub part_in : ℕ → Ty-F Ty → Option Ty
part_in at (Ty-F.Array parts part) = Some part
part_in at (Ty-F.Struct parts) = slice_get parts at
part_in at _ = None

abbrev pub head_part : ℕ → Option Ty → Option Ty
head_part at None = None
head_part at (Some ty) = part_in at (out-Ty ty)

-- a part of a type; None where it has no such part, and where the type isn't known
abbrev pub part : List (Placed unit.Unit) → Ty → ℕ → Option Ty
part us ty at = head_part at (head us ty)

-- where a part of a struct begins, the first of its parts at a place or behind it
unfoldable pub offset_from : List (Placed unit.Unit) → ℕ → List Ty → ℕ → ℕ
offset_from us from [] at = from
offset_from us from (part ∷ parts) zero = next_multiple_of from (align us part)
offset_from us from (part ∷ parts) (suc at) = offset_from us (next_multiple_of from (align us part) + size us part) parts at

-- where a part of a struct begins, in bytes
abbrev pub struct_offset : List (Placed unit.Unit) → List Ty → ℕ → ℕ
struct_offset us parts at = offset_from us 0 parts at
