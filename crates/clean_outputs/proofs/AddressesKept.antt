-- Which constants are kept as addresses: those that begin at the address of a global.
use Rattle.std.proofs.Common.{◌≡◌, sym, ap, ◌∙◌, ℕ, nat_eq, Bool, true, false, cond, List, length, map, Option, Some, None, arith}
use Rattle.std.specs.List.{list_all}
use Rattle.ir_values.specs.declared.types.Width.{Width}
use Rattle.ir_values.specs.declared.types.Width.TheVariants.{W8}
use Rattle.ir_values.specs.declared.types.Ty.{Ty, out-Ty}
use Rattle.ir_values.specs.declared.types.Ty.TheVariants as ty
use Rattle.ir_values.specs.declared.types.Ty.TheVariants.{Ptr}
use Rattle.ir_values.specs.declared.types.Ty.TheOpen.{Ty-F}
use Rattle.ir_values.specs.declared.constants.Const.{Const, out-Const}
use Rattle.ir_values.specs.declared.constants.Const.TheVariants as const
use Rattle.ir_values.specs.declared.constants.Const.TheVariants.{Addr, outs-Int, outs-Null, outs-Addr, outs-Zero, outs-Array, outs-Struct, outs-Bytes, outs-Number, outs-Left}
use Rattle.ir_values.specs.declared.constants.Const.TheOpen.{Const-F}
use Rattle.ir_values.specs.declared.constants.Operand.{Operand}
use Rattle.check_types.specs.Heads.{head}
use Rattle.check_types.specs.Replaced.{replaced}
use Rattle.check_constants.specs.Indices.{known}
use Rattle.check_constants.specs.Addresses.{number_at, global_step, offset_step}
use Rattle.check_constants.specs.Keeping.{are_zero, is_byte_head, byte_of, layer_zero, zero_of, address_kept, number_kept, left_kept, values_of, types_of, kept_step}
use Rattle.check_constants.specs.Weighed.{Weighed}
use Rattle.check_constants.specs.Constants.{weighed}
use Rattle.sized_modules.proofs.UnitLemmas.{Units}
use Rattle.said_units.specs.Sayable.{SaidConstLayer, IsSaidConstWithin}
use Rattle.clean_outputs.proofs.WeighedLayers.{found_in}

-- constants that aren't kept as addresses

abbrev IsNoAddress : Const → Type 0
IsNoAddress constant = (name : List ℕ) (offset : ℕ) → constant ≡ Addr name offset → ⊥

layer_same : (constant : Const) (layer : Const-F Const Operand) (name : List ℕ) (offset : ℕ) → out-Const constant ≡ layer
    → constant ≡ Addr name offset → layer ≡ Const-F.Addr name offset
layer_same constant layer name offset opens is = sym opens ∙ ap out-Const is ∙ outs-Addr name offset

number_apart : (width : Width) (value : ℕ) → IsNoAddress (const.Int width value)
number_apart width value name offset is =
    let same = layer_same (const.Int width value) (Const-F.Int width value) name offset (outs-Int width value) is in grind arith

null_apart : IsNoAddress const.Null
null_apart name offset is = let same = layer_same const.Null Const-F.Null name offset outs-Null is in grind arith

zero_apart : (own : Ty) → IsNoAddress (const.Zero own)
zero_apart own name offset is = let same = layer_same (const.Zero own) (Const-F.Zero own) name offset (outs-Zero own) is in grind arith

array_apart : (part : Ty) (parts : List Const) → IsNoAddress (const.Array part parts)
array_apart part parts name offset is =
    let same = layer_same (const.Array part parts) (Const-F.Array part parts) name offset (outs-Array part parts) is in grind arith

struct_apart : (parts : List Const) → IsNoAddress (const.Struct parts)
struct_apart parts name offset is =
    let same = layer_same (const.Struct parts) (Const-F.Struct parts) name offset (outs-Struct parts) is in grind arith

bytes_apart : (text : List ℕ) → IsNoAddress (const.Bytes text)
bytes_apart text name offset is =
    let same = layer_same (const.Bytes text) (Const-F.Bytes text) name offset (outs-Bytes text) is in grind arith

address_number_apart : (global : List ℕ) (by : ℕ) → IsNoAddress (const.Number global by)
address_number_apart global by name offset is =
    let same = layer_same (const.Number global by) (Const-F.Number global by) name offset (outs-Number global by) is in grind arith

left_apart : (text : List ℕ) → IsNoAddress (const.Left text)
left_apart text name offset is =
    let same = layer_same (const.Left text) (Const-F.Left text) name offset (outs-Left text) is in grind arith

either_apart : (test : Bool) (met unmet : Const) → IsNoAddress met → IsNoAddress unmet → IsNoAddress (cond test met unmet)
either_apart true met unmet one other = one
either_apart false met unmet one other = other

zero_shape_apart : (own : Ty) (shape : Ty-F Ty) → IsNoAddress (layer_zero own shape)
zero_shape_apart own (Ty-F.Int width) = number_apart width 0
zero_shape_apart own Ty-F.Ptr = null_apart
zero_shape_apart own _ = zero_apart own

zeros_apart : (own : Ty) (at : Option Ty) → IsNoAddress (zero_of own at)
zeros_apart own None = zero_apart own
zeros_apart own (Some type) = zero_shape_apart own (out-Ty type)

text_shape_apart : (text : List ℕ) (shape : Ty-F Ty) (found : Option ℕ) → IsNoAddress (number_kept text shape found)
text_shape_apart text (Ty-F.Int width) (Some value) = number_apart width value
text_shape_apart text _ found = left_apart text

text_apart : (text : List ℕ) (at : Option Ty) → IsNoAddress (left_kept text at)
text_apart text None = left_apart text
text_apart text (Some type) = text_shape_apart text (out-Ty type) (number_at (out-Ty type) text)

-- what is known of a layer that is kept as an address
pub record LayerComesTo (us : Units) (layer : Const-F Weighed Weighed) (name : List ℕ) (offset : ℕ) : Type 0 where
  pub global : global_step layer ≡ Some name
  pub by : offset_step us layer ≡ offset

same_address : (global name : List ℕ) (from offset : ℕ) → Addr global from ≡ Addr name offset → (global ≡ name) × (from ≡ offset)
same_address global name from offset is =
    let same = layer_same (Addr global from) (Const-F.Addr global from) name offset (outs-Addr global from) is in (cc, cc)

moved_comes : (us : Units) (global : Option (List ℕ)) (from : ℕ) (name : List ℕ) (offset : ℕ) → address_kept global from ≡ Addr name offset
    → (global ≡ Some name) × (from ≡ offset)
moved_comes us None from name offset is = absurd (null_apart name offset is)
moved_comes us (Some global) from name offset is = let same = same_address global name from offset is in (ap Some same.0, same.1)

pub layer_comes : (us : Units) (n : ℕ) (layer : Const-F Const Operand) (name : List ℕ) (offset : ℕ) → SaidConstLayer n (IsSaidConstWithin n) Ptr layer
    → kept_step us (Some Ptr) (found_in layer) ≡ Addr name offset → LayerComesTo us (found_in layer) name offset
layer_comes us n (Const-F.Int width value) name offset said is = absurd (number_apart width value name offset is)
layer_comes us n Const-F.Null name offset said is = absurd (null_apart name offset is)
layer_comes us n (Const-F.Addr global from) name offset said is =
    let same = same_address global name from offset is in record { global = ap Some same.0; by = same.1 }
layer_comes us n (Const-F.Zero own) name offset said is = absurd (zeros_apart (replaced us own) (head us own) name offset is)
layer_comes us n (Const-F.Array part parts) name offset said is =
    let values = values_of us (map weighed parts) in
    let text = map (λ value. byte_of (out-Const value)) values in
    let zeros = ty.Array (length values) (replaced us part) in
    let others = cond (is_byte_head (head us part)) (const.Bytes text) (const.Array (replaced us part) values) in
    absurd (either_apart (are_zero values) (const.Zero zeros) others (zero_apart zeros)
    (either_apart (is_byte_head (head us part)) (const.Bytes text) (const.Array (replaced us part) values) (bytes_apart text)
    (array_apart (replaced us part) values)) name offset is)
layer_comes us n (Const-F.Struct parts) name offset said is =
    let values = values_of us (map weighed parts) in
    let zeros = ty.Struct (types_of us (map weighed parts)) in
    absurd (either_apart (are_zero values) (const.Zero zeros) (const.Struct values) (zero_apart zeros) (struct_apart values) name offset is)
layer_comes us n (Const-F.Bytes text) name offset said is =
    let zeros = ty.Array (length text) (ty.Int W8) in
    absurd (either_apart (list_all (λ byte. nat_eq byte 0) text) (const.Zero zeros) (const.Bytes text) (zero_apart zeros)
    (bytes_apart text) name offset is)
layer_comes us n (Const-F.Gep own base indices) name offset said is =
    let both = moved_comes us (weighed base).global (offset_step us (found_in (Const-F.Gep own base indices))) name offset is in
    record { global = both.0; by = both.1 }
layer_comes us n (Const-F.Number global by) name offset said is = absurd (address_number_apart global by name offset is)
layer_comes us n (Const-F.Left text) name offset said is = absurd (text_apart text (known us (Some Ptr)) name offset is)
layer_comes us n (Const-F.Typed own part) name offset said is = absurd said
