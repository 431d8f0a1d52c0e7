use Rattle.std.proofs.Common.{◌≡◌, ℕ, List, [], drop}
use Rattle.check_bodies.specs.Blocks.{sources_behind}
use Rattle.check_bodies.specs.Sources.{found}
use Rattle.check_bodies.proofs.sources.sources_by_label.Given as goal

abbrev pub invariant-loop-edge : goal.invariant-loop-edge
invariant-loop-edge l = (q : List ℕ) → sources_behind q (found q l.map) (drop l.edge-index l.edges) ≡ sources_behind q [] l.edges
