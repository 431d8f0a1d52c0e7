-- Types with their names replaced.
-- Source: LLVM Language Reference, "Structure Types". Differs: what isn't known stays, and so does a type past the limits.
use Rattle.std.specs.Prelude.{ℕ, zero, suc, cond, List, map, Option, Some, None}
use Rattle.ltt_base.specs.declared.refusal.Placed.{Placed}
use Rattle.ir_values.specs.declared.types.Ty.{Ty, out-Ty}
use Rattle.ir_values.specs.declared.types.Ty.TheOpen.{Ty-F}
use Rattle.ir_values.specs.declared.types.Ty.TheVariants.{Array, Struct}
use Rattle.ir_values.specs.declared.units.Unit as unit
use Rattle.check_types.specs.Heads.{head}
use Rattle.check_types.specs.Measures.{is_past}

-- a type that isn't a name, with its parts replaced
abbrev pub layer_replaced : (Ty → Ty) → Ty → Ty-F Ty → Ty
layer_replaced replaced ty (Ty-F.Array many part) = Array many (replaced part)
layer_replaced replaced ty (Ty-F.Struct parts) = Struct (map replaced parts)
layer_replaced replaced ty _ = ty

abbrev pub head_replaced : (Ty → Ty) → Ty → Option Ty → Ty
head_replaced replaced ty None = ty
head_replaced replaced ty (Some known) = layer_replaced replaced known (out-Ty known)

-- a type with the names replaced in its first so many levels
unfoldable pub replaced_within : List (Placed unit.Unit) → ℕ → Ty → Ty
replaced_within us zero ty = ty
replaced_within us (suc levels) ty = head_replaced (replaced_within us levels) ty (head us ty)

-- a type with its names replaced; one within the limits has at most 4,096 levels
unfoldable pub replaced : List (Placed unit.Unit) → Ty → Ty
replaced us ty = cond (is_past us ty) ty (replaced_within us 4096 ty)
