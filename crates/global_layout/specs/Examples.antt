-- A worked example.
use Rattle.std.specs.Prelude.{List, [], ◌∷◌}
use Rattle.global_layout.specs.declared.ids.IdMembers.{IdMembers}

abbrev pub example_ids : List IdMembers
example_ids = record { members = 0 ∷ 1 ∷ [] } ∷ record { members = 1 ∷ 2 ∷ [] } ∷ record { members = 3 ∷ [] } ∷ []
