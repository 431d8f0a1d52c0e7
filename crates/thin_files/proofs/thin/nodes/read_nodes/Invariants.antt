use Rattle.std.proofs.Common.{◌≡◌, map, take}
use Rattle.thin_files.specs.Thin.{node_form}
use Rattle.thin_files.specs.Shape.{forms}
use Rattle.thin_files.proofs.thin.nodes.read_nodes.Given as goal

abbrev pub invariant-loop-unit : goal.invariant-loop-unit
invariant-loop-unit l = forms (take l.unit-index l.units) ≡ map node_form l.nodes
