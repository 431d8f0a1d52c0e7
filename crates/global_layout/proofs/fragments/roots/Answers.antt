use Rattle.std.proofs.Common.{ℕ, ap, ◌∙◌}
use Rattle.std.specs.BTreeSet.{contains, BTreeSet}
use Rattle.std.specs.Ordering.{nat_cmp}
use Rattle.global_layout.specs.Owners.{number_by}
use Rattle.global_layout.proofs.OwnerSteps.{root-some, root-none}
use Rattle.global_layout.proofs.fragments.roots.Goals.{in-Some+in-Ok, in_default}
use Rattle.global_layout.proofs.fragments.roots.Goals as goal

pub loop-at-preserved : goal.loop-at-preserved
loop-at-preserved c n = elim c.match-number_of.branch [
  | in-Some+in-Ok w ↦ ap (λ (s : BTreeSet ℕ). contains nat_cmp s n) w.numbers-is
      ∙ root-some (number_by c.args.owners.now.labels.items c.args.owners.now.numbers.items) c.args.objects.now c.loop-at.at w.in-Some.number n
      (contains nat_cmp c.loop-at.numbers n) (contains nat_cmp w.insert.new.self n) c.loop-at-test.true w.in-Some.ensures (w.in-Ok.ensures.updates.0 n) (c.loop-at.invariant n)
  | in_default w ↦ ap (λ (s : BTreeSet ℕ). contains nat_cmp s n) w.numbers-is
      ∙ root-none (number_by c.args.owners.now.labels.items c.args.owners.now.numbers.items) c.args.objects.now c.loop-at.at n
      (contains nat_cmp c.loop-at.numbers n) c.loop-at-test.true w.in_default.ensures (c.loop-at.invariant n)
]
