-- The theorem on lowered tests.
use Rattle.std.specs.Prelude.{ℕ, List, codes, bytes_eq, if◌then◌else◌}
use Rattle.thin_files.specs.declared.thin.Thin.{Thin}
use Rattle.thin_files.specs.Thin.{IsAllowed, module_of}
use Rattle.test_lowering.specs.Rewriting.{rewritten, group_name}
use Rattle.ir_memories.specs.Placement.{Placement, IsPlaced}
use Rattle.test_lowering.specs.TestAt.{IsExact}
use Rattle.thin_files.specs.Laws.{example}

-- at every placement of the output, each lowered test of a thin file is exact
abbrev pub LoweredTestsAreExact : Type 0
LoweredTestsAreExact = (t : Thin) → IsAllowed t → (p : Placement) → IsPlaced (rewritten (module_of t)) p → IsExact (module_of t) p

-- The output of the example of a thin file has a placement.

abbrev pub example_placement : Placement
example_placement name = if bytes_eq name (group_name 0) then 4096 else if bytes_eq name (codes "t") then 8192 else 8193

abbrev pub PlacementIsPossible : Type 0
PlacementIsPossible = IsPlaced (rewritten (module_of example)) example_placement
