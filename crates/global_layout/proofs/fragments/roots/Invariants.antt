use Rattle.std.proofs.Common.{◌≡◌, ℕ, take}
use Rattle.std.specs.BTreeSet.{contains}
use Rattle.std.specs.Ordering.{nat_cmp}
use Rattle.global_layout.specs.Owners.{number_by, is_root}
use Rattle.global_layout.proofs.fragments.roots.Given as goal

abbrev pub invariant-loop-at : goal.invariant-loop-at
invariant-loop-at l = (n : ℕ) → contains nat_cmp l.numbers n ≡ is_root (number_by l.owners.labels.items l.owners.numbers.items) (take l.at l.objects) n
