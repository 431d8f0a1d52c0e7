-- What a type is, with the names followed that stand for the whole of it.
-- Source: LLVM Language Reference, "Structure Types". Differs: a name may stand for a type of any form.
use Rattle.std.specs.Prelude.{ℕ, zero, suc, cond, List, length, Option, Some, None}
use Rattle.ltt_base.specs.declared.refusal.Placed.{Placed}
use Rattle.ir_values.specs.declared.types.Ty.{Ty, out-Ty}
use Rattle.ir_values.specs.declared.types.Ty.TheOpen.{Ty-F}
use Rattle.ir_values.specs.declared.units.Unit as unit
use Rattle.check_types.specs.Named.{named_type, is_endless}

-- a type itself, unless it is left out; `follow` tells what a name stands for
abbrev pub type_head : (List ℕ → Option Ty) → Ty → Ty-F Ty → Option Ty
type_head follow ty (Ty-F.Named name) = follow name
type_head follow ty (Ty-F.Left text) = None
type_head follow ty _ = Some ty

abbrev pub option_head : (List ℕ → Option Ty) → Option Ty → Option Ty
option_head follow None = None
option_head follow (Some ty) = type_head follow ty (out-Ty ty)

-- what a name stands for, behind so many names at most
unfoldable pub followed : List (Placed unit.Unit) → ℕ → List ℕ → Option Ty
followed us zero name = None
followed us (suc names) name = option_head (followed us names) (named_type us name)

-- what a name stands for in the end, which is no name. None where that isn't known: the name is undefined, opaque or endless, or leads to
-- such a name or to a type that is left out
unfoldable pub named_head : List (Placed unit.Unit) → List ℕ → Option Ty
named_head us name = cond (is_endless us name) None (followed us (length us) name)

-- a type with the names followed that stand for the whole of it; None where it isn't known
abbrev pub head : List (Placed unit.Unit) → Ty → Option Ty
head us ty = type_head (named_head us) ty (out-Ty ty)
