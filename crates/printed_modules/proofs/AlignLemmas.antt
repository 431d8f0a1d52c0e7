-- The place of a type that is written out is aligned to 8 bytes at most.
use Rattle.std.proofs.Common.{ℕ, zero, suc, ◌+◌, ◌*◌, ◌^◌, ◌≤◌, max, Bool, true, false, cond, ◌&&◌, nat_le, List, [], ◌∷◌, map, Option, Some, None, subst, sym, arith}
use Rattle.std.specs.List.{AllByRecursion}
use Rattle.std.specs.Int.{next_multiple_of}
use Rattle.ir_values.specs.declared.types.Width.{Width}
use Rattle.ir_values.specs.declared.types.Width.TheVariants.{W1, W8, W16, W32, W64}
use Rattle.ir_values.specs.declared.types.Ty.{Ty, out-Ty, map-Ty}
use Rattle.ir_values.specs.declared.types.Ty.TheOpen.{Ty-F}
use Rattle.ir_numbers.specs.Layout.{width_bytes}
use Rattle.check_types.specs.Measures.{Measure, within, single, array_measure, option_with_part, parts_measure, struct_measure, measure_step, named_measure, measure, align_in, align}
use Rattle.printed_units.specs.Written.{TyLayer, IsTyWithin}
use Rattle.printed_modules.proofs.TypeKept.{Units, measure_opened}

abbrev IsLow : Option Measure → Type 0
IsLow taken = align_in taken ≤ 8

low_within : (count size align : ℕ) → align ≤ 8 → IsLow (within count size align)
low_within count size align low = by_limits (nat_le count 4096 && nat_le size (2 ^ 24)) where
  by_limits : (fits : Bool) → IsLow (cond fits (Some (record { count = count; size = size; align = align })) None)
  by_limits true = low
  by_limits false = omega arith

low_array : (count : ℕ) (part : Option Measure) → IsLow part → IsLow (array_measure count part)
low_array count None low = low
low_array count (Some part) low = low_within (part.count + 1) (count * part.size) part.align low

low_part : (before part : Option Measure) → IsLow before → IsLow part → IsLow (option_with_part before part)
low_part None part low other = low
low_part (Some before) None low other = other
low_part (Some before) (Some part) low other =
    low_within (before.count + part.count) (next_multiple_of before.size part.align + part.size) (max before.align part.align)
    (omega (arith, low, other))

low_parts : (before : Option Measure) (parts : List (Option Measure)) → IsLow before → AllByRecursion IsLow parts
    → IsLow (parts_measure before parts)
unfolding parts_measure
low_parts before [] low are = low
low_parts before (part ∷ parts) low are = low_parts (option_with_part before part) parts (low_part before part low are.0) are.1

low_struct : (parts : Option Measure) → IsLow parts → IsLow (struct_measure parts)
low_struct None low = low
low_struct (Some parts) low = low_within parts.count (next_multiple_of parts.size parts.align) parts.align low

low_width : (width : Width) → IsLow (single (width_bytes width) (width_bytes width))
low_width W1 = omega arith
low_width W8 = omega arith
low_width W16 = omega arith
low_width W32 = omega arith
low_width W64 = omega arith

low_each : (us : Units) (P : Ty → Type 0) → ((part : Ty) → P part → IsLow (measure us part)) → (parts : List Ty) → AllByRecursion P parts
    → AllByRecursion IsLow (map (measure us) parts)
low_each us P low [] are = tt
low_each us P low (part ∷ parts) are = (low part are.0, low_each us P low parts are.1)

low_layer : (us : Units) (P : Ty → Type 0) → ((part : Ty) → P part → IsLow (measure us part)) → (layer : Ty-F Ty) → TyLayer P layer
    → IsLow (measure_step (named_measure us) (map-Ty Ty (Option Measure) (measure us) layer))
low_layer us P low Ty-F.Void is = omega arith
low_layer us P low (Ty-F.Int width) is = low_width width
low_layer us P low Ty-F.Ptr is = omega arith
low_layer us P low (Ty-F.Array count part) is = low_array count (measure us part) (low part is.1)
low_layer us P low (Ty-F.Struct parts) is =
    low_struct (parts_measure (single 0 1) (map (measure us) parts))
    (low_parts (single 0 1) (map (measure us) parts) (omega arith) (low_each us P low parts is))
low_layer us P low Ty-F.Pair is = absurd is
low_layer us P low (Ty-F.Named name) is = absurd is
low_layer us P low (Ty-F.Left text) is = absurd is

pub ty_low : (us : Units) (n : ℕ) (type : Ty) → IsTyWithin n type → align us type ≤ 8
ty_low us zero type is = absurd is
ty_low us (suc n) type is =
    subst IsLow (sym (measure_opened us type)) (low_layer us (IsTyWithin n) (ty_low us n) (out-Ty type) is)
