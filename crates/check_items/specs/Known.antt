-- Types that are known in all their parts.
-- Source: LLVM Language Reference, "Type System".
use Rattle.std.specs.Prelude.{ℕ, zero, suc, Bool, true, false, not, ◌&&◌, List, Option, Some, None}
use Rattle.std.specs.List.{list_all}
use Rattle.ltt_base.specs.declared.refusal.Placed.{Placed}
use Rattle.ir_values.specs.declared.types.Ty.{Ty, out-Ty}
use Rattle.ir_values.specs.declared.types.Ty.TheOpen.{Ty-F}
use Rattle.ir_values.specs.declared.units.Unit as unit
use Rattle.check_types.specs.Heads.{head}
use Rattle.check_types.specs.Measures.{is_past}

abbrev pub known_parts : (Ty → Bool) → Ty-F Ty → Bool
known_parts known (Ty-F.Array parts part) = known part
known_parts known (Ty-F.Struct parts) = list_all known parts
known_parts known _ = true

abbrev pub known_head : (Ty → Bool) → Option Ty → Bool
known_head known None = false
known_head known (Some ty) = known_parts known (out-Ty ty)

-- no part is left out, undefined, opaque or endless, and none is more levels deep
unfoldable pub is_known_within : List (Placed unit.Unit) → ℕ → Ty → Bool
is_known_within us zero ty = false
is_known_within us (suc levels) ty = known_head (is_known_within us levels) (head us ty)

-- a type within the limits, in which no part is left out, undefined, opaque or endless; such a type has at most 4,096 levels
unfoldable pub is_known : List (Placed unit.Unit) → Ty → Bool
is_known us ty = not (is_past us ty) && is_known_within us 4096 ty
