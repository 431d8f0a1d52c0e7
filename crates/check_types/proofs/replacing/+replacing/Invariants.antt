use Rattle.std.proofs.Common.{◌≡◌, ◌+◌, ◌*◌, ◌++◌, drop, map}
use Rattle.check_types.specs.Replaced.{replaced_within}
use Rattle.check_types.proofs.replacing.+replacing.Given as goal

abbrev pub decreases-replaced_within : goal.decreases-replaced_within
decreases-replaced_within l = 4 * l.levels

abbrev pub decreases-head_replaced : goal.decreases-head_replaced
decreases-head_replaced l = 4 * l.levels + 3

abbrev pub decreases-layer_replaced : goal.decreases-layer_replaced
decreases-layer_replaced l = 4 * l.levels + 2

abbrev pub decreases-parts_replaced : goal.decreases-parts_replaced
decreases-parts_replaced l = 4 * l.levels + 1

abbrev pub invariant-parts_replaced-loop-part : goal.invariant-parts_replaced-loop-part
invariant-parts_replaced-loop-part l =
    l.replaced ++ map (replaced_within l.types.units l.levels) (drop l.part-index l.parts) ≡ map (replaced_within l.types.units l.levels) l.parts
