-- How much types take once their names are replaced: how many types are written in one, and its bytes.
-- Source: LLVM Language Reference, "Data Layout" and "Aggregate Types". Differs: one data layout, in which `ptr` has 8 bytes; a type
-- that isn't known counts as one type of no bytes; the limits are this project's own.
use Rattle.std.specs.Prelude.{ℕ, zero, suc, ◌+◌, ◌*◌, ◌^◌, ◌≤◌, nat_le, Bool, cond, ◌&&◌, max, List, [], ◌∷◌, length, Option, Some, None, is_none, codes}
use Rattle.std.specs.Int.{next_multiple_of}
use Rattle.ltt_base.specs.declared.refusal.Code.TheVariants.{E12}
use Rattle.ltt_base.specs.declared.refusal.Placed.{Placed}
use Rattle.ir_values.specs.declared.types.Ty.{Ty, fold-Ty}
use Rattle.ir_values.specs.declared.types.Ty.TheOpen.{Ty-F}
use Rattle.ir_values.specs.declared.units.Unit as unit
use Rattle.ir_numbers.specs.Layout.{width_bytes}
use Rattle.check_names.specs.declared.flaws.Flaw.{Flaw}
use Rattle.check_names.specs.Flaws.{worded_when}
use Rattle.check_types.specs.Named.{named_type, is_endless}

-- how many types are written in a type, itself included; the bytes that it takes; and the alignment of its place
pub record Measure : Type 0 where
  pub count : ℕ
  pub size : ℕ
  pub align : ℕ

-- the bounds of a measure: at most 4,096 types and 2^24 bytes, and an alignment from 1 to 8
pub record IsBounded (count size align : ℕ) : Type 0 where
  pub count_most : count ≤ 4096
  pub size_most : size ≤ 2 ^ 24
  pub align_least : 1 ≤ align
  pub align_most : align ≤ 8

abbrev pub measure_of : ℕ → ℕ → ℕ → Measure
measure_of count size align = record { count = count; size = size; align = align }

-- one type of so many bytes
abbrev pub single : ℕ → ℕ → Option Measure
single size align = Some (measure_of 1 size align)

-- a measure within the limits; None past them
abbrev pub within : ℕ → ℕ → ℕ → Option Measure
within count size align = cond (nat_le count 4096 && nat_le size (2 ^ 24)) (Some (measure_of count size align)) None

abbrev pub array_measure : ℕ → Option Measure → Option Measure
array_measure parts None = None
array_measure parts (Some part) = within (part.count + 1) (parts * part.size) part.align

-- one part more behind others: it begins at a multiple of its alignment
abbrev pub with_part : Measure → Measure → Option Measure
with_part before part =
    within (before.count + part.count) (next_multiple_of before.size part.align + part.size) (max before.align part.align)

-- one part more; None where it, or what is before it, is past the limits
abbrev pub option_with_part : Option Measure → Option Measure → Option Measure
option_with_part (Some before) (Some part) = with_part before part
option_with_part _ _ = None

-- the parts of a struct, behind those before; None where they are past the limits, or one of them is
unfoldable pub parts_measure : Option Measure → List (Option Measure) → Option Measure
parts_measure before [] = before
parts_measure before (part ∷ parts) = parts_measure (option_with_part before part) parts

-- a struct ends at a multiple of its alignment
abbrev pub struct_measure : Option Measure → Option Measure
struct_measure None = None
struct_measure (Some parts) = within parts.count (next_multiple_of parts.size parts.align) parts.align

abbrev pub measure_step : (List ℕ → Option Measure) → Ty-F (Option Measure) → Option Measure
measure_step of_name (Ty-F.Int width) = single (width_bytes width) (width_bytes width)
measure_step of_name Ty-F.Ptr = single 8 8
measure_step of_name (Ty-F.Array parts part) = array_measure parts part
measure_step of_name (Ty-F.Struct parts) = struct_measure (parts_measure (single 0 1) parts)
measure_step of_name (Ty-F.Named name) = of_name name
measure_step of_name _ = single 0 1

abbrev pub option_measure : (List ℕ → Option Measure) → Option Ty → Option Measure
option_measure of_name None = single 0 1
option_measure of_name (Some ty) = fold-Ty (Option Measure) (measure_step of_name) ty

-- the measure of what a name stands for, with names replaced in so many rounds
unfoldable pub measured : List (Placed unit.Unit) → ℕ → List ℕ → Option Measure
measured us zero name = single 0 1
measured us (suc rounds) name = option_measure (measured us rounds) (named_type us name)

-- a name that is endless isn't known. As many rounds as units are enough for any other
unfoldable pub named_measure : List (Placed unit.Unit) → List ℕ → Option Measure
named_measure us name = cond (is_endless us name) (single 0 1) (measured us (length us) name)

-- the measure of a type with its names replaced; None where it, or a type in it, is past the limits
unfoldable pub measure : List (Placed unit.Unit) → Ty → Option Measure
measure us = fold-Ty (Option Measure) (measure_step (named_measure us))

-- a type of more types or bytes than may be
abbrev pub is_past : List (Placed unit.Unit) → Ty → Bool
is_past us ty = is_none (measure us ty)

abbrev pub past_flaw : List (Placed unit.Unit) → Ty → Option Flaw
past_flaw us ty = worded_when (is_past us ty) E12 (codes "type")

abbrev pub size_in : Option Measure → ℕ
size_in None = 0
size_in (Some measure) = measure.size

-- the bytes of a type within the limits
abbrev pub size : List (Placed unit.Unit) → Ty → ℕ
size us ty = size_in (measure us ty)

abbrev pub align_in : Option Measure → ℕ
align_in None = 1
align_in (Some measure) = measure.align

-- the alignment of the place of a type within the limits
abbrev pub align : List (Placed unit.Unit) → Ty → ℕ
align us ty = align_in (measure us ty)
