-- The types that names stand for, and the names for which none can be written out.
-- Source: LLVM Language Reference, "Structure Types" and "Opaque Structure Types". Differs: a name may stand for a type of any form;
-- of several definitions of a name the first counts.
use Rattle.std.specs.Prelude.{ℕ, zero, suc, Bool, true, not, List, [], ◌∷◌, flat_map, length, Option, Some, None, is_none, ◌&&◌}
use Rattle.std.specs.List.{list_all}
use Rattle.ltt_base.specs.declared.refusal.Placed.{Placed}
use Rattle.ir_values.specs.declared.types.Ty.{Ty, fold-Ty}
use Rattle.ir_values.specs.declared.types.Ty.TheOpen.{Ty-F}
use Rattle.ir_values.specs.declared.units.Unit as unit
use Rattle.ir_values.specs.declared.units.Form.{Form}
use Rattle.ir_values.specs.declared.units.Form.TheVariants.{TypeForm}
use Rattle.check_names.specs.declared.spaces.Space.TheVariants.{Types}
use Rattle.check_names.specs.Spaces.{defines, first_unit}

-- the type that a type unit gives to its name
abbrev pub type_in : Form → Option Ty
type_in (TypeForm name ty) = ty
type_in _ = None

abbrev pub type_of : Option (Placed unit.Unit) → Option Ty
type_of None = None
type_of (Some u) = type_in u.value.form

-- the type that a name stands for; None where no unit defines the name, and where it is opaque
unfoldable pub named_type : List (Placed unit.Unit) → List ℕ → Option Ty
named_type us name = type_of (first_unit Types name us)

-- a name that is defined and has no type
abbrev pub is_opaque : List (Placed unit.Unit) → List ℕ → Bool
is_opaque us name = defines Types name us && is_none (named_type us name)

abbrev pub names_step : Ty-F (List (List ℕ)) → List (List ℕ)
names_step (Ty-F.Array count part) = part
names_step (Ty-F.Struct parts) = flat_map (λ names. names) parts
names_step (Ty-F.Named name) = name ∷ []
names_step _ = []

-- the names that stand in a type
abbrev pub names_in : Ty → List (List ℕ)
names_in = fold-Ty (List (List ℕ)) names_step

-- each name in a type passes
abbrev pub each_name : (List ℕ → Bool) → Option Ty → Bool
each_name test None = true
each_name test (Some ty) = list_all test (names_in ty)

-- where names are replaced by their types, again and again, none with a type is left of this one behind so many rounds
unfoldable pub ends : List (Placed unit.Unit) → ℕ → List ℕ → Bool
ends us zero name = is_none (named_type us name)
ends us (suc rounds) name = each_name (ends us rounds) (named_type us name)

-- a name whose replacing doesn't end: it holds itself, or leads to one that does. As many rounds as units are enough for any other
unfoldable pub is_endless : List (Placed unit.Unit) → List ℕ → Bool
is_endless us name = not (ends us (length us) name)
