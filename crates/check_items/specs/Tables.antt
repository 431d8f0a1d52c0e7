-- What is wrong with tables of functions, which outputs alone have.
-- Source: none; the form is this project's own (docs/layout.md).
use Rattle.std.specs.Prelude.{ℕ, Bool, true, false, not, List, Option, Some, None, codes}
use Rattle.ltt_base.specs.declared.refusal.Code.TheVariants.{E06, E07}
use Rattle.ltt_base.specs.declared.refusal.Placed.{Placed}
use Rattle.ir_values.specs.declared.units.Unit as unit
use Rattle.ir_values.specs.declared.units.Form.{Form}
use Rattle.ir_values.specs.declared.units.Form.TheVariants.{VariableForm, TableForm}
use Rattle.check_names.specs.declared.flaws.Flaw.{Flaw}
use Rattle.check_names.specs.declared.spaces.Space.TheVariants.{Globals}
use Rattle.check_names.specs.Flaws.{◌then◌, each, when, worded_when}
use Rattle.check_names.specs.Spaces.{first_unit}
use Rattle.check_names.specs.Reserved.{definition_flaw, use_flaw}
use Rattle.check_constants.specs.Intrinsics.{uncalled_flaw}

-- a global that is no function
abbrev pub is_other : Form → Bool
is_other (VariableForm name linkage constant ty init align attached) = true
is_other (TableForm name funcs) = true
is_other _ = false

abbrev pub is_other_in : Option (Placed unit.Unit) → Bool
is_other_in None = false
is_other_in (Some u) = is_other u.value.form

-- a name in a table: nothing defines it, it is that of a variable, a table or an intrinsic, or it is reserved
abbrev pub listed_flaw : Bool → List (Placed unit.Unit) → List ℕ → Option Flaw
listed_flaw output us name =
    use_flaw output us Globals name then (when (is_other_in (first_unit Globals name us)) E06 then uncalled_flaw us name)

-- a table in a source
abbrev pub form_flaw : Bool → Option Flaw
form_flaw output = worded_when (not output) E07 (codes "jumptable")

-- the flaws of a table, the unit at a place
abbrev pub table_flaw : Bool → List (Placed unit.Unit) → ℕ → List ℕ → List (List ℕ) → Option Flaw
table_flaw output us at name funcs =
    form_flaw output then (definition_flaw output us at Globals name then each (listed_flaw output us) funcs)
