use Rattle.std.proofs.Common.{◌≡◌, take}
use Rattle.global_layout.specs.Owners.{owner_in, unowned}
use Rattle.global_layout.proofs.fragments.unowned.Given as goal

abbrev pub invariant-loop-at : goal.invariant-loop-at
invariant-loop-at l = l.others ≡ unowned (owner_in l.labels) (take l.at l.objects)
