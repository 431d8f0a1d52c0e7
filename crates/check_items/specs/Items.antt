-- The flaws of units that stand outside all bodies, apart from their place there.
-- Source: LLVM Language Reference, "High Level Structure". Differs: the codes and the limits are this project's own.
use Rattle.std.specs.Prelude.{ℕ, Bool, true, false, cond, List, Option, Some, None}
use Rattle.ltt_base.specs.declared.refusal.Code.TheVariants.{E07}
use Rattle.ltt_base.specs.declared.refusal.Placed.{Placed}
use Rattle.ir_values.specs.declared.types.Ty.{Ty}
use Rattle.ir_values.specs.declared.units.Unit as unit
use Rattle.ir_values.specs.declared.units.HeaderKind.{HeaderKind}
use Rattle.ir_values.specs.declared.units.HeaderKind.TheVariants.{Layout}
use Rattle.ir_values.specs.declared.units.Form.{Form}
use Rattle.ir_values.specs.declared.units.Form.TheVariants.{HeaderForm, TypeForm, VariableForm, DeclareForm, DefineForm, MetadataForm, TableForm, LeftForm}
use Rattle.ir_names.specs.Names.{is_decimal}
use Rattle.check_names.specs.declared.flaws.Flaw.{Flaw}
use Rattle.check_names.specs.declared.spaces.Space.TheVariants.{Types, Nodes}
use Rattle.check_names.specs.Flaws.{◌then◌, worded_when}
use Rattle.check_names.specs.Reserved.{definition_flaw}
use Rattle.check_types.specs.declared.places.Allowed.TheVariants.{Every}
use Rattle.check_types.specs.Written.{type_flaw}
use Rattle.check_items.specs.declared.counts.Counts.{Counts}
use Rattle.check_items.specs.Counts.{counts_before, variables_flaw, functions_flaw, carriers_flaw}
use Rattle.check_items.specs.Identifiers.{identifiers_flaw}
use Rattle.check_items.specs.Layouts.{layout_flaw}
use Rattle.check_items.specs.Variables.{variable_flaw}
use Rattle.check_items.specs.Functions.{declare_flaw, define_flaw}
use Rattle.check_items.specs.Tables.{table_flaw}

abbrev pub header_flaw : HeaderKind → List ℕ → Option Flaw
header_flaw Layout value = layout_flaw value
header_flaw _ value = None

-- the type of a definition, unless it is opaque
abbrev pub own_type_flaw : Bool → List (Placed unit.Unit) → Option Ty → Option Flaw
own_type_flaw output us None = None
own_type_flaw output us (Some ty) = type_flaw output us false Every ty

abbrev pub type_unit_flaw : Bool → List (Placed unit.Unit) → ℕ → List ℕ → Option Ty → Option Flaw
type_unit_flaw output us at name ty = definition_flaw output us at Types name then own_type_flaw output us ty

-- a node that has a number; of one that has a name nothing is asked
abbrev pub node_flaw : Bool → List (Placed unit.Unit) → ℕ → List ℕ → Option Flaw
node_flaw output us at name = cond (is_decimal name) (definition_flaw output us at Nodes name) None

-- a definition whose entries are past a limit. Where one entry is past both, the limit of identifiers is told
abbrev pub limits_flaw : List (Placed unit.Unit) → ℕ → Counts → Form → Option Flaw
limits_flaw us at counts form = identifiers_flaw us at then carriers_flaw counts form

-- the flaws of a unit at a place, where the units before it have so many variables, functions and entries
abbrev pub form_flaw : Bool → List (Placed unit.Unit) → ℕ → Counts → Form → Option Flaw
form_flaw output us at counts (HeaderForm kind value) = header_flaw kind value
form_flaw output us at counts (TypeForm name ty) = type_unit_flaw output us at name ty
form_flaw output us at counts (VariableForm name linkage constant ty init align attached) =
    variables_flaw counts
    then (variable_flaw output us at name linkage ty init align attached
    then limits_flaw us at counts (VariableForm name linkage constant ty init align attached))
form_flaw output us at counts (DeclareForm head) =
    functions_flaw counts (DeclareForm head) then declare_flaw output us at head (DeclareForm head)
form_flaw output us at counts (DefineForm head) =
    functions_flaw counts (DefineForm head)
    then (define_flaw output us at head (DefineForm head)
    then limits_flaw us at counts (DefineForm head))
form_flaw output us at counts (MetadataForm name distinct items) = node_flaw output us at name
form_flaw output us at counts (TableForm name funcs) = table_flaw output us at name funcs
form_flaw output us at counts (LeftForm word) = worded_when true E07 word
form_flaw output us at counts _ = None

-- the flaws of a unit outside all bodies, in an output or a source
unfoldable pub item_flaw : Bool → List (Placed unit.Unit) → ℕ → Form → Option Flaw
item_flaw output us at form = form_flaw output us at (counts_before us at) form
