-- The tables of a layout, and a function's entry.
use Rattle.std.specs.Prelude.{ℕ, List, [], ◌∷◌, Option, Some, None, if◌then◌else◌}
use Rattle.global_layout.specs.declared.groups.Home.{Home}
use Rattle.global_layout.specs.declared.groups.Group.{Group}
use Rattle.global_layout.specs.declared.layout.Layout.{Layout}
use Rattle.global_layout.specs.Layout.{home_of, groups_of}
use Rattle.jump_tables.specs.declared.table.JumpTable.{JumpTable}

-- the groups that are tables
abbrev pub tables_in : List Group → List JumpTable
tables_in [] = []
tables_in (group ∷ groups) = if group.table then record { funcs = group.members } ∷ tables_in groups else tables_in groups

abbrev pub tables_of : Layout → List JumpTable
tables_of layout = tables_in (groups_of layout)

-- the table's number, and the offset in it
abbrev pub entry_at : Option Home → Option (ℕ × ℕ)
entry_at None = None
entry_at (Some home) = if home.table then Some (home.number, home.offset) else None

abbrev pub entry_of : Layout → ℕ → Option (ℕ × ℕ)
entry_of layout object = entry_at (home_of layout object)
