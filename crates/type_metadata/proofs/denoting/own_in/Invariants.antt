use Rattle.std.proofs.Common.{◌≡◌, ◌+◌, drop}
use Rattle.type_metadata.specs.Items.{items_from}
use Rattle.type_metadata.specs.Denoted.{first, is_own}
use Rattle.type_metadata.proofs.denoting.own_in.Given as goal

abbrev pub invariant-loop-at : goal.invariant-loop-at
invariant-loop-at l =
    first (is_own l.file l.name) (items_from (l.at + 1) (drop l.at l.modules)) ≡ first (is_own l.file l.name) (items_from 1 l.modules)
