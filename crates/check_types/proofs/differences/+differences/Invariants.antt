use Rattle.std.proofs.Common.{◌≡◌, ◌+◌, ◌*◌, drop}
use Rattle.check_types.specs.Differences as spec
use Rattle.check_types.proofs.differences.+differences.Given as goal

abbrev pub decreases-differ_within : goal.decreases-differ_within
decreases-differ_within l = 4 * l.levels

abbrev pub decreases-heads_differ : goal.decreases-heads_differ
decreases-heads_differ l = 4 * l.levels + 3

abbrev pub decreases-layers_differ : goal.decreases-layers_differ
decreases-layers_differ l = 4 * l.levels + 2

abbrev pub decreases-lists_differ : goal.decreases-lists_differ
decreases-lists_differ l = 4 * l.levels + 1

abbrev pub invariant-lists_differ-loop-at : goal.invariant-lists_differ-loop-at
invariant-lists_differ-loop-at l =
    l.differ ≡ spec.lists_differ (spec.differ_within l.types.units l.levels) (drop l.at l.ones) (drop l.at l.others)
