use Rattle.std.proofs.Common.{◌≡◌, ℕ, ◌-◌, ◌<◌, false, length, take}
use Rattle.std.specs.Prelude.{flat_map}
use Rattle.check_items.specs.Found.{Holds}
use Rattle.check_items.specs.Identifiers.{unit_identifiers, identifiers_to, most_counted, has_too_many}
use Rattle.check_items.proofs.identifiers.first_past.Given as goal

abbrev pub invariant-loop-at : goal.invariant-loop-at
invariant-loop-at l =
    (l.units ≡ l.fn.context.units)
    × Holds (identifiers_to l.units l.at) l.found
    × (l.left ≡ most_counted - length (flat_map (unit_identifiers l.units) (take l.at l.units)))
    × ((n : ℕ) → n < l.at → has_too_many l.units n ≡ false)
