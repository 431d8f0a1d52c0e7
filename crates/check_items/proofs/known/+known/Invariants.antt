use Rattle.std.proofs.Common.{◌≡◌, ◌+◌, ◌*◌, drop}
use Rattle.std.specs.List.{list_all}
use Rattle.check_items.specs.Known.{is_known_within}
use Rattle.check_items.proofs.known.+known.Given as goal

abbrev pub decreases-are_known : goal.decreases-are_known
decreases-are_known l = 4 * l.levels + 1

abbrev pub decreases-are_known_parts : goal.decreases-are_known_parts
decreases-are_known_parts l = 4 * l.levels + 2

abbrev pub decreases-is_known_head : goal.decreases-is_known_head
decreases-is_known_head l = 4 * l.levels + 3

abbrev pub decreases-is_known_within : goal.decreases-is_known_within
decreases-is_known_within l = 4 * l.levels

abbrev pub invariant-are_known-loop-at : goal.invariant-are_known-loop-at
invariant-are_known-loop-at l = l.all ≡ list_all (is_known_within l.types.units l.levels) (drop l.at l.parts)
