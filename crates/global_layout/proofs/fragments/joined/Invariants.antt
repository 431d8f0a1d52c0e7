use Rattle.std.proofs.Common.{◌≡◌, ◌++◌, ℕ, length, true}
use Rattle.std.specs.BTreeMap.{IsOrdered}
use Rattle.std.specs.BTreeSet.{contains}
use Rattle.std.specs.Ordering.{nat_cmp}
use Rattle.global_layout.specs.Owners.{owner_in, joined, rest, AreLabelled, AreNamed, IsLabel}
use Rattle.global_layout.proofs.fragments.joined.Given as goal

abbrev pub invariant-loop-number : goal.invariant-loop-number
invariant-loop-number l = record {
  joined : l.joint.objects ++ joined (contains nat_cmp l.numbers) l.live.entries ≡ joined (contains nat_cmp l.fn.numbers) l.fn.live.entries;
  rest : rest (contains nat_cmp l.numbers) l.live.entries ≡ rest (contains nat_cmp l.fn.numbers) l.fn.live.entries;
  ordered : IsOrdered nat_cmp l.live;
  labels : AreLabelled (owner_in l.fn.labels.items) l.joint.objects l.joint.label (owner_in l.labels.items);
  label : IsLabel (contains nat_cmp l.fn.numbers) l.names l.label l.joint.label;
  within : (n : ℕ) → contains nat_cmp l.numbers n ≡ true → contains nat_cmp l.fn.numbers n ≡ true;
  named : AreNamed l.live.entries (owner_in l.fn.labels.items) l.names;
}

abbrev pub decreases-loop-number : goal.decreases-loop-number
decreases-loop-number l = length l.numbers.keys
