-- What is wrong with a unit of a file: the flaw that counts of all that it has.
-- Source: none; the codes, and which of several flaws is told, are this project's own (docs/refusals.md).
use Rattle.std.specs.Prelude.{ℕ, Bool, List, Option, Some, None}
use Rattle.ltt_base.specs.declared.refusal.Placed.{Placed}
use Rattle.ir_values.specs.declared.units.Unit.{Unit}
use Rattle.ir_values.specs.declared.units.Form.{Form}
use Rattle.ir_values.specs.declared.units.Form.TheVariants as form
use Rattle.check_names.specs.declared.flaws.Flaw.{Flaw}
use Rattle.check_names.specs.Flaws.{◌then◌}
use Rattle.check_bodies.specs.declared.standing.Spot.{Spot}
use Rattle.check_bodies.specs.declared.standing.Standing.{Standing}
use Rattle.check_bodies.specs.declared.standing.Standing.TheVariants.{Outside, Inside}
use Rattle.check_bodies.specs.Standing.{standing}
use Rattle.check_items.specs.Items.{item_flaw}
use Rattle.check_instructions.specs.Instructions.{instruction_flaw}
use Rattle.check_bodies.specs.Bodies.{outside_flaw, unclosed_flaw, body_flaw}

-- a function's head whose body is never closed
abbrev pub unclosed : List (Placed Unit) → ℕ → Form → Option Flaw
unclosed us at (form.DefineForm head) = unclosed_flaw us at
unclosed us at _ = None

-- the flaws of a unit that stands outside all bodies
abbrev pub outer_flaw : Bool → List (Placed Unit) → ℕ → Form → Option Flaw
outer_flaw output us at form =
    outside_flaw form then (unclosed us at form then item_flaw output us at form)

-- the flaws of a unit for where it stands in the body behind a head
unfoldable pub place_flaw : List (Placed Unit) → ℕ → ℕ → Spot → Form → Option Flaw
place_flaw us head at spot form = body_flaw us head at spot form

-- the flaws of a unit that stands at a spot of a body
abbrev pub inner_flaw : Bool → List (Placed Unit) → ℕ → Spot → Form → Option Flaw
inner_flaw output us at spot form = place_flaw us spot.head at spot form then instruction_flaw output us spot.head at spot form

abbrev pub flaw_at : Bool → List (Placed Unit) → ℕ → Standing → Form → Option Flaw
flaw_at output us at Outside form = outer_flaw output us at form
flaw_at output us at (Inside spot) form = inner_flaw output us at spot form

-- the flaw that counts of the unit at a place of a file, an output or a source
unfoldable pub unit_flaw : Bool → List (Placed Unit) → ℕ → Placed Unit → Option Flaw
unit_flaw output us at unit = flaw_at output us at (standing us at) unit.value.form
