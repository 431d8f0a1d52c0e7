-- What is wrong with variables.
-- Source: LLVM Language Reference, "Global Variables". Differs: the codes and the limits are this project's own; a variable without the word
-- `external` has an initialiser.
use Rattle.std.specs.Prelude.{ℕ, Bool, true, false, not, ◌&&◌, nat_lt, cond, List, Option, Some, None, is_none, codes}
use Rattle.std.specs.Int.{is_power_of_two}
use Rattle.ltt_base.specs.declared.refusal.Code.TheVariants.{E03, E06, E12}
use Rattle.ltt_base.specs.declared.refusal.Placed.{Placed}
use Rattle.ir_values.specs.declared.types.Ty.{Ty}
use Rattle.ir_values.specs.declared.constants.Const.{Const}
use Rattle.ir_values.specs.declared.units.Unit as unit
use Rattle.ir_values.specs.declared.units.Attach.{Attach}
use Rattle.check_names.specs.declared.flaws.Flaw.{Flaw}
use Rattle.check_names.specs.declared.spaces.Space.TheVariants.{Globals}
use Rattle.check_names.specs.Flaws.{◌then◌, when, worded_when}
use Rattle.check_names.specs.Reserved.{definition_flaw, intrinsic_flaw}
use Rattle.check_types.specs.declared.places.Allowed.TheVariants.{NonVoid}
use Rattle.check_types.specs.Written.{type_flaw}
use Rattle.check_constants.specs.Judged.{constant_flaw}
use Rattle.check_items.specs.Linkages.{linkage_flaw, is_external}
use Rattle.check_items.specs.Attached.{attached_flaw, declared_flaw}

-- no initialiser where one is needed
abbrev pub bare_flaw : Option (List ℕ) → Option Const → Option Flaw
bare_flaw linkage init = when (is_none init && not (is_external linkage)) E03

abbrev pub init_flaw : Bool → List (Placed unit.Unit) → Ty → Option Const → Option Flaw
init_flaw output us ty None = None
init_flaw output us ty (Some constant) = constant_flaw output us false (Some ty) constant

-- an alignment that is no power of two, or one past 4,096
abbrev pub number_flaw : Option ℕ → Option Flaw
number_flaw None = when true E06
number_flaw (Some align) = when (not (is_power_of_two align)) E06 then worded_when (nat_lt 4096 align) E12 (codes "align")

-- the alignment, if one is written; a number that isn't below 2^64 is None inside
abbrev pub align_flaw : Option (Option ℕ) → Option Flaw
align_flaw None = None
align_flaw (Some align) = number_flaw align

-- the attachments of a variable, which is a definition where it has an initialiser
abbrev pub own_attached_flaw : Bool → List (Placed unit.Unit) → Ty → Option Const → List Attach → Option Flaw
own_attached_flaw output us ty init attached =
    cond (is_none init) (declared_flaw output attached) (attached_flaw output us (Some ty) attached)

-- what is wrong with the name and the words of a variable
abbrev pub named_flaw : Bool → List (Placed unit.Unit) → ℕ → List ℕ → Option (List ℕ) → Option Flaw
named_flaw output us at name linkage = definition_flaw output us at Globals name then (intrinsic_flaw name then linkage_flaw linkage)

-- what is wrong with what a variable holds
abbrev pub held_flaw : Bool → List (Placed unit.Unit) → Option (List ℕ) → Ty → Option Const → Option Flaw
held_flaw output us linkage ty init =
    type_flaw output us false NonVoid ty then (bare_flaw linkage init then init_flaw output us ty init)

-- the flaws of a variable apart from the limits of its file
abbrev pub variable_flaw : Bool → List (Placed unit.Unit) → ℕ → List ℕ → Option (List ℕ) → Ty → Option Const → Option (Option ℕ) → List Attach → Option Flaw
variable_flaw output us at name linkage ty init align attached =
    named_flaw output us at name linkage
    then (held_flaw output us linkage ty init then (align_flaw align then own_attached_flaw output us ty init attached))
