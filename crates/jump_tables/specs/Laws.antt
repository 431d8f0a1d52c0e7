-- Entry k of a table stands at 8k.
use Rattle.std.specs.Prelude.{◌≡◌, ℕ, ◌+◌, ◌*◌, ◌<◌, List, [], ◌∷◌, length, slice_index, Some, All}
use Rattle.global_layout.specs.declared.ids.IdMembers.{IdMembers}
use Rattle.global_layout.specs.declared.ids.Shape.{Shape}
use Rattle.global_layout.specs.declared.layout.Layout.{Layout}
use Rattle.global_layout.specs.Layout.{IsId, layout_of}
use Rattle.jump_tables.specs.declared.table.JumpTable.{JumpTable}
use Rattle.jump_tables.specs.Tables.{tables_of, entry_of}

-- the tables have their entries, where they count from `number`
unfoldable pub AreEntries : Layout → ℕ → List JumpTable → Type 0
AreEntries layout number [] = Unit {0}
AreEntries layout number (table ∷ tables) =
    ((k : ℕ) → k < length table.funcs → entry_of layout (slice_index table.funcs k) ≡ Some (number, 8 * k)) × AreEntries layout (number + 1) tables

abbrev pub EntriesStand : Type 0
EntriesStand = (ids : List IdMembers) (shapes : List Shape) → All (IsId shapes) ids → AreEntries (layout_of ids shapes) 0 (tables_of (layout_of ids shapes))
