-- The module that the units of a file become.
-- Source: LLVM Language Reference, "Module Structure". Differs: what changes nothing for the lowering is left out; a unit with a flaw becomes
-- some value.
use Rattle.std.specs.Prelude.{ℕ, Bool, List, [], ◌∷◌, flat_map}
use Rattle.ltt_base.specs.declared.refusal.Place.{Place}
use Rattle.ltt_base.specs.declared.refusal.Placed.{Placed}
use Rattle.ir_values.specs.declared.modules.Jump.{Jump}
use Rattle.ir_values.specs.declared.modules.Module.{Module}
use Rattle.ir_values.specs.declared.units.Unit.{Unit}
use Rattle.ir_values.specs.declared.units.Form.{Form}
use Rattle.ir_values.specs.declared.units.Form.TheVariants.{TableForm}
use Rattle.built_modules.specs.Variables.{vars_at}
use Rattle.built_modules.specs.Functions.{funcs_from}

abbrev pub jumps_in : Place → Form → List Jump
jumps_in place (TableForm name funcs) = record { place = place; name = name; funcs = funcs } ∷ []
jumps_in place _ = []

-- the jump table of a unit that is one
abbrev pub jumps_at : Placed Unit → List Jump
jumps_at u = jumps_in u.place u.value.form

-- the module of a file's units, an output's or a source's; the file has this number
unfoldable pub module_of : Bool → List (Placed Unit) → ℕ → Module
module_of output us file = record {
  vars = flat_map (vars_at output us file) us;
  funcs = funcs_from output us file 0 us;
  jumps = flat_map jumps_at us;
}
