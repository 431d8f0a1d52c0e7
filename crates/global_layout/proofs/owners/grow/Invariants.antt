use Rattle.std.proofs.Common.{◌≡◌, ℕ, ◌+◌, ◌-◌, length}
use Rattle.global_layout.specs.Owners.{owner_in}
use Rattle.global_layout.proofs.owners.grow.Given as goal

abbrev pub invariant-loop-labels : goal.invariant-loop-labels
invariant-loop-labels l = (o : ℕ) → owner_in l.labels.items o ≡ owner_in l.fn.labels.items o

abbrev pub decreases-loop-labels : goal.decreases-loop-labels
decreases-loop-labels l = l.place + 1 - length l.labels.items
