use Rattle.global_layout.specs.Owners.{owner_in}
use Rattle.global_layout.proofs.OwnerSteps.{own-more}
use Rattle.global_layout.proofs.owners.own.Goals as goal

pub loop-at-preserved : goal.loop-at-preserved
loop-at-preserved c o = own-more (owner_in c.args.labels.now.items) c.args.objects.now c.loop-at.at c.args.label o
    (owner_in c.loop-at.labels.items o) (owner_in c.put.new.labels.items o) c.loop-at-test.true (c.in_ok-put.ensures o) (c.loop-at.invariant o)
