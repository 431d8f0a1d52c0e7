use Rattle.std.proofs.Common.{◌≡◌, ℕ, take}
use Rattle.global_layout.specs.Owners.{owner_in, owner_more}
use Rattle.global_layout.proofs.owners.own.Given as goal

abbrev pub invariant-loop-at : goal.invariant-loop-at
invariant-loop-at l = (o : ℕ) → owner_in l.labels.items o ≡ owner_more (owner_in l.fn.labels.items) (take l.at l.objects) l.label o
