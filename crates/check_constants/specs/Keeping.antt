-- Constants as a module keeps them: numbers modulo 2 to the power of their width, zeros, bytes and addresses in one form each.
-- Source: LLVM Language Reference, "Simple Constants" and "Complex Constants". Differs: an aggregate of zeros alone is `zeroinitializer`.
use Rattle.std.specs.Prelude.{ℕ, ◌%◌, nat_eq, Bool, true, false, cond, List, length, map, Option, Some, None}
use Rattle.std.specs.List.{list_all}
use Rattle.ltt_base.specs.declared.refusal.Placed.{Placed}
use Rattle.ir_values.specs.declared.types.Width.TheVariants.{W8}
use Rattle.ir_values.specs.declared.types.Ty.{Ty, out-Ty}
use Rattle.ir_values.specs.declared.types.Ty.TheVariants as ty
use Rattle.ir_values.specs.declared.types.Ty.TheOpen.{Ty-F}
use Rattle.ir_values.specs.declared.constants.Const.{Const, out-Const}
use Rattle.ir_values.specs.declared.constants.Const.TheVariants.{Int, Null, Addr, Zero, Array, Struct, Bytes, Number, Left}
use Rattle.ir_values.specs.declared.constants.Const.TheOpen.{Const-F}
use Rattle.ir_values.specs.declared.constants.Operand.{Operand}
use Rattle.ir_values.specs.declared.units.Unit as unit
use Rattle.check_types.specs.Heads.{head}
use Rattle.check_types.specs.Replaced.{replaced}
use Rattle.check_constants.specs.Indices.{known}
use Rattle.check_constants.specs.Addresses.{number_at, offset_step}
use Rattle.check_constants.specs.Weighed.{Weighed}

-- a kept constant that is zero or null
abbrev pub is_zero : Const-F Const Operand → Bool
is_zero (Const-F.Int width n) = nat_eq n 0
is_zero Const-F.Null = true
is_zero (Const-F.Zero own) = true
is_zero _ = false

abbrev pub are_zero : List Const → Bool
are_zero values = list_all (λ value. is_zero (out-Const value)) values

-- `zeroinitializer` of a type
abbrev pub layer_zero : Ty → Ty-F Ty → Const
layer_zero own (Ty-F.Int width) = Int width 0
layer_zero own Ty-F.Ptr = Null
layer_zero own _ = Zero own

abbrev pub zero_of : Ty → Option Ty → Const
zero_of own None = Zero own
zero_of own (Some ty) = layer_zero own (out-Ty ty)

abbrev pub zero_kept : List (Placed unit.Unit) → Ty → Const
zero_kept us own = zero_of (replaced us own) (head us own)

abbrev pub is_byte_layer : Ty-F Ty → Bool
is_byte_layer (Ty-F.Int W8) = true
is_byte_layer _ = false

abbrev pub is_byte_head : Option Ty → Bool
is_byte_head None = false
is_byte_head (Some ty) = is_byte_layer (out-Ty ty)

abbrev pub byte_of : Const-F Const Operand → ℕ
byte_of (Const-F.Int width n) = n % 256
byte_of _ = 0

-- an array of parts of a type, as they are kept
abbrev pub array_kept : List (Placed unit.Unit) → Ty → List Const → Const
array_kept us part values =
    cond (are_zero values) (Zero (ty.Array (length values) (replaced us part)))
    (cond (is_byte_head (head us part)) (Bytes (map (λ value. byte_of (out-Const value)) values))
    (Array (replaced us part) values))

-- a struct of parts, as they are kept, and their types
abbrev pub struct_kept : List Ty → List Const → Const
struct_kept types values = cond (are_zero values) (Zero (ty.Struct types)) (Struct values)

abbrev pub bytes_kept : List ℕ → Const
bytes_kept text = cond (list_all (λ byte. nat_eq byte 0) text) (Zero (ty.Array (length text) (ty.Int W8))) (Bytes text)

abbrev pub address_kept : Option (List ℕ) → ℕ → Const
address_kept None offset = Null
address_kept (Some name) offset = Addr name offset

-- a number by its text at a type, where that type holds it
abbrev pub number_kept : List ℕ → Ty-F Ty → Option ℕ → Const
number_kept text (Ty-F.Int width) (Some n) = Int width n
number_kept text _ n = Left text

abbrev pub left_kept : List ℕ → Option Ty → Const
left_kept text None = Left text
left_kept text (Some ty) = number_kept text (out-Ty ty) (number_at (out-Ty ty) text)

abbrev pub values_of : List (Placed unit.Unit) → List Weighed → List Const
values_of us = map (λ part. part.kept us None)

-- a written type with its names replaced
abbrev pub option_replaced : List (Placed unit.Unit) → Option Ty → Ty
option_replaced us None = ty.Void
option_replaced us (Some own) = replaced us own

abbrev pub types_of : List (Placed unit.Unit) → List Weighed → List Ty
types_of us = map (λ part. option_replaced us part.written)

abbrev pub kept_step : List (Placed unit.Unit) → Option Ty → Const-F Weighed Weighed → Const
kept_step us ty (Const-F.Int width n) = Int width n
kept_step us ty Const-F.Null = Null
kept_step us ty (Const-F.Addr name offset) = Addr name offset
kept_step us ty (Const-F.Zero own) = zero_kept us own
kept_step us ty (Const-F.Array part parts) = array_kept us part (values_of us parts)
kept_step us ty (Const-F.Struct parts) = struct_kept (types_of us parts) (values_of us parts)
kept_step us ty (Const-F.Bytes text) = bytes_kept text
kept_step us ty (Const-F.Gep own base indices) = address_kept base.global (offset_step us (Const-F.Gep own base indices))
kept_step us ty (Const-F.Number name offset) = Number name offset
kept_step us ty (Const-F.Left text) = left_kept text (known us ty)
kept_step us ty (Const-F.Typed own part) = part.kept us (Some own)
