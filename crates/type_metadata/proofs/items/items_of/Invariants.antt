use Rattle.std.proofs.Common.{◌≡◌, ◌+◌, ◌++◌, drop}
use Rattle.type_metadata.specs.Items.{items_from}
use Rattle.type_metadata.proofs.items.items_of.Given as goal

abbrev pub invariant-loop-at : goal.invariant-loop-at
invariant-loop-at l = l.items ++ items_from (l.at + 1) (drop l.at l.modules) ≡ items_from 1 l.modules
