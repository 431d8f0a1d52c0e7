-- Constants as indices and as addresses.
-- Source: LLVM Language Reference, "Constant Expressions".
use Rattle.std.specs.Prelude.{ℕ, ◌+◌, ◌%◌, ◌^◌, Bool, true, false, List, map, Option, Some, None}
use Rattle.ltt_base.specs.declared.refusal.Placed.{Placed}
use Rattle.ir_values.specs.declared.types.Ty.{Ty, out-Ty}
use Rattle.ir_values.specs.declared.types.Ty.TheOpen.{Ty-F}
use Rattle.ir_values.specs.declared.constants.Const.TheOpen.{Const-F}
use Rattle.ir_values.specs.declared.units.Unit as unit
use Rattle.check_types.specs.Heads.{head}
use Rattle.check_types.specs.Written.{is_pointer}
use Rattle.check_constants.specs.declared.indices.Index.{Index}
use Rattle.check_constants.specs.declared.indices.Index.TheVariants.{Number, Address, LeftOut, Variable}
use Rattle.check_constants.specs.Numbers.{number_in, extended}
use Rattle.check_constants.specs.Indices.{known, moved}
use Rattle.check_constants.specs.Weighed.{Weighed}

-- a number by its text at a type
abbrev pub number_at : Ty-F Ty → List ℕ → Option ℕ
number_at (Ty-F.Int width) text = number_in width text
number_at _ text = None

-- a number with its sign, where the type is that of integers
abbrev pub index_at : Ty-F Ty → ℕ → Index
index_at (Ty-F.Int width) n = Number (extended width n)
index_at _ n = LeftOut

abbrev pub option_index : Ty-F Ty → Option ℕ → Index
option_index ty None = LeftOut
option_index ty (Some n) = index_at ty n

abbrev pub left_index : Option Ty → List ℕ → Index
left_index None text = LeftOut
left_index (Some ty) text = option_index (out-Ty ty) (number_at (out-Ty ty) text)

-- `zeroinitializer`
abbrev pub layer_zero_index : Ty-F Ty → Index
layer_zero_index (Ty-F.Int width) = Number 0
layer_zero_index _ = Variable

abbrev pub zero_index : Option Ty → Index
zero_index None = LeftOut
zero_index (Some ty) = layer_zero_index (out-Ty ty)

abbrev pub index_step : List (Placed unit.Unit) → Option Ty → Const-F Weighed Weighed → Index
index_step us ty (Const-F.Int width n) = Number (extended width n)
index_step us ty (Const-F.Zero own) = zero_index (head us own)
index_step us ty (Const-F.Number name offset) = Address
index_step us ty (Const-F.Left text) = left_index (known us ty) text
index_step us ty (Const-F.Typed own part) = part.index us (Some own)
index_step us ty _ = Variable

abbrev pub global_step : Const-F Weighed Weighed → Option (List ℕ)
global_step (Const-F.Addr name offset) = Some name
global_step (Const-F.Gep own base indices) = base.global
global_step (Const-F.Typed own part) = part.global
global_step _ = None

-- the indices of a constant, each behind its written type
abbrev pub indices_of : List (Placed unit.Unit) → List Weighed → List Index
indices_of us = map (λ index. index.index us None)

abbrev pub offset_step : List (Placed unit.Unit) → Const-F Weighed Weighed → ℕ
offset_step us (Const-F.Addr name offset) = offset
offset_step us (Const-F.Gep own base indices) = (base.offset us + moved us own (indices_of us indices)) % 2 ^ 64
offset_step us (Const-F.Typed own part) = part.offset us
offset_step us _ = 0

abbrev pub is_pointer_head : Option Ty → Bool
is_pointer_head None = false
is_pointer_head (Some ty) = is_pointer (out-Ty ty)

abbrev pub null_step : List (Placed unit.Unit) → Const-F Weighed Weighed → Bool
null_step us Const-F.Null = true
null_step us (Const-F.Zero own) = is_pointer_head (head us own)
null_step us (Const-F.Gep own base indices) = base.is_null us
null_step us (Const-F.Typed own part) = part.is_null us
null_step us _ = false
