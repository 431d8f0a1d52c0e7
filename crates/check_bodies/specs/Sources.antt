-- A map from labels to the blocks that go to them.
use Rattle.std.specs.Prelude.{◌≡◌, ℕ, List, [], unwrap_or}
use Rattle.std.specs.BTreeMap.{BTreeMap}
use Rattle.check_bodies.specs.declared.blocks.BlockMark.{BlockMark}
use Rattle.check_bodies.specs.declared.blocks.Edge.{Edge}
use Rattle.check_bodies.specs.Index.{find}
use Rattle.check_bodies.specs.Blocks.{sources_behind}

abbrev pub found : List ℕ → BTreeMap (List ℕ) (List BlockMark) → List BlockMark
found label map = unwrap_or (find label map) []

-- the map finds the sources of each label
abbrev pub FindsSources : List Edge → BTreeMap (List ℕ) (List BlockMark) → Type 0
FindsSources edges map = (label : List ℕ) → found label map ≡ sources_behind label [] edges
