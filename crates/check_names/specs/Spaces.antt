-- The names that the units of a file define, apart from those inside bodies.
-- Source: LLVM Language Reference, "Identifiers", "Structure Types" and "Metadata". Differs: a declaration and a table define
-- a global as a definition does; of metadata only numbers are defined, so named metadata may stand twice; a left-out unit
-- defines nothing.
use Rattle.std.specs.Prelude.{ℕ, Bool, false, cond, not, find, take, List, Option, Some, None, codes}
use Rattle.std.specs.List.{list_any, position_from}
use Rattle.std.specs.Str.{bytes_eq}
use Rattle.ltt_base.specs.declared.refusal.Code.TheVariants.{E04, E05}
use Rattle.ltt_base.specs.declared.refusal.Placed.{Placed}
use Rattle.ir_values.specs.declared.units.Unit as unit
use Rattle.ir_values.specs.declared.units.Form.{Form}
use Rattle.ir_values.specs.declared.units.Form.TheVariants.{VariableForm, DeclareForm, DefineForm, TableForm, TypeForm, MetadataForm}
use Rattle.ir_names.specs.Names.{is_decimal}
use Rattle.check_names.specs.declared.flaws.Flaw.{Flaw}
use Rattle.check_names.specs.declared.spaces.Space.{Space}
use Rattle.check_names.specs.declared.spaces.Space.TheVariants.{Globals, Types, Nodes}
use Rattle.check_names.specs.Flaws.{named_when}

-- what stands before a name
abbrev pub sign : Space → List ℕ
sign Globals = codes "@"
sign Types = codes "%"
sign Nodes = codes "!"

abbrev pub global_of : Form → Option (List ℕ)
global_of (VariableForm name linkage constant ty init align attached) = Some name
global_of (DeclareForm head) = Some head.name
global_of (DefineForm head) = Some head.name
global_of (TableForm name funcs) = Some name
global_of _ = None

abbrev pub type_of : Form → Option (List ℕ)
type_of (TypeForm name ty) = Some name
type_of _ = None

abbrev pub node_of : Form → Option (List ℕ)
node_of (MetadataForm name distinct items) = cond (is_decimal name) (Some name) None
node_of _ = None

-- the name that a form defines in a space
abbrev pub name_in : Space → Form → Option (List ℕ)
name_in Globals form = global_of form
name_in Types form = type_of form
name_in Nodes form = node_of form

abbrev pub is_named : List ℕ → Option (List ℕ) → Bool
is_named name None = false
is_named name (Some other) = bytes_eq other name

-- the unit defines the name
abbrev pub is_definition : Space → List ℕ → Placed unit.Unit → Bool
is_definition space name u = is_named name (name_in space u.value.form)

-- some unit defines the name
abbrev pub defines : Space → List ℕ → List (Placed unit.Unit) → Bool
defines space name us = list_any (is_definition space name) us

-- the place of the first unit that defines the name
abbrev pub first_definition : Space → List ℕ → List (Placed unit.Unit) → Option ℕ
first_definition space name us = position_from (is_definition space name) 0 us

abbrev pub first_unit : Space → List ℕ → List (Placed unit.Unit) → Option (Placed unit.Unit)
first_unit space name us = find (is_definition space name) us

-- a name that a unit before defines too
abbrev pub again_flaw : List (Placed unit.Unit) → ℕ → Space → List ℕ → Option Flaw
again_flaw us at space name = named_when (defines space name (take at us)) E04 (sign space) name

-- a name that nothing defines
abbrev pub missing_flaw : List (Placed unit.Unit) → Space → List ℕ → Option Flaw
missing_flaw us space name = named_when (not (defines space name us)) E05 (sign space) name
