-- What an address instruction adds to its base: its indices, times the sizes of what they count.
use Rattle.std.specs.Prelude.{ℕ, ◌+◌, ◌*◌, ◌%◌, ◌^◌, List, [], ◌∷◌, slice_get, if◌then◌else◌, Option, Some, None}
use Rattle.ir_values.specs.declared.types.Width.{Width}
use Rattle.ir_values.specs.declared.types.Ty.{Ty, out-Ty}
use Rattle.ir_values.specs.declared.types.Ty.TheOpen.{Ty-F}
use Rattle.ir_values.specs.declared.constants.Operand.{Operand}
use Rattle.ir_values.specs.declared.instructions.CastOp.{CastOp}
use Rattle.ir_numbers.specs.Numbers.{bits}
use Rattle.ir_numbers.specs.Arithmetic.{converted}
use Rattle.ir_numbers.specs.Layout.{layout, field_offsets}
use Rattle.ir_memories.specs.Model.{Model}
use Rattle.ir_memories.specs.declared.values.Value.{Value}
use Rattle.ir_memories.specs.declared.values.Value.TheVariants.{Ptr}
use Rattle.ir_meaning.specs.declared.states.Frame.{Frame}
use Rattle.ir_meaning.specs.Operands.{integer_of, pointer_of}
use Rattle.ir_meaning.specs.Sequence.{◌>>=◌}

-- an index is extended to 64 bits by its sign
abbrev pub extended : Width → ℕ → ℕ
extended Width.W64 n = n
extended width n = converted CastOp.Sext (bits width) 64 n

-- so many places of a type, in bytes; a type without a size has no places
abbrev pub scaled : Ty → ℕ → Option ℕ
scaled ty n = if (layout ty).is_laid then Some (n * (layout ty).size % 2 ^ 64) else None

-- where a part of an array or a struct begins; a struct's part has to be there
abbrev pub offset_in : Ty → Ty-F Ty → ℕ → Option ℕ
offset_in ty (Ty-F.Array count part) n = scaled part n
offset_in ty (Ty-F.Struct parts) n = if (layout ty).is_laid then slice_get (field_offsets ty) n else None
offset_in ty _ n = None

-- the type of that part
abbrev pub part_in : Ty-F Ty → ℕ → Option Ty
part_in (Ty-F.Array count part) n = Some part
part_in (Ty-F.Struct parts) n = slice_get parts n
part_in _ n = None

module _ {W P : Type 0} (m : Model W P) (w : W) (f : Frame P) where
  abbrev pub index_of : Width → Operand → Option ℕ
  index_of width operand = integer_of m w f width operand >>= λ n. Some (extended width n)

  -- the bytes added so far, and those of the indices that lead on into parts of a type
  abbrev pub offset_behind : ℕ → Ty → List (Width × Operand) → Option ℕ
  offset_behind sum ty [] = Some sum
  offset_behind sum ty (index ∷ rest) = do
    n ← index_of index.0 index.1
    offset ← offset_in ty (out-Ty ty) n
    part ← part_in (out-Ty ty) n
    offset_behind ((sum + offset) % 2 ^ 64) part rest

  -- the first index counts whole places of the type; without indices nothing is added
  abbrev pub offset_of : Ty → List (Width × Operand) → Option ℕ
  offset_of ty [] = Some 0
  offset_of ty (index ∷ rest) = do
    n ← index_of index.0 index.1
    offset ← scaled ty n
    offset_behind offset ty rest

  -- Source: LLVM Language Reference, "'getelementptr' Instruction". Differs: the words `inbounds`, `nusw` and `nuw` aren't looked at.
  abbrev pub address_at : Ty → Operand → List (Width × Operand) → Option (Value P)
  address_at ty base indices = do
    p ← pointer_of m w f base
    offset ← offset_of ty indices
    Some (Ptr (m.moved p offset))
