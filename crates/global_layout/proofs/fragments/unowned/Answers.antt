use Rattle.std.proofs.Common.{not}
use Rattle.std.specs.Prelude.{is_some}
use Rattle.std.proofs.Common.{sym, ap, ◌∙◌}
use Rattle.global_layout.specs.Owners.{owner_in}
use Rattle.global_layout.proofs.OwnerSteps.{unowned-new, unowned-old}
use Rattle.global_layout.proofs.fragments.unowned.Goals.{then-is_none+in_ok-add, else-is_none}
use Rattle.global_layout.proofs.fragments.unowned.Goals as goal

pub loop-at-preserved : goal.loop-at-preserved
loop-at-preserved c = elim c.if-is_none.branch [
  | then-is_none+in_ok-add w ↦ w.others-is ∙ unowned-new (owner_in c.args.labels.now) c.args.objects.now c.loop-at.at c.loop-at.others _ c.loop-at-test.true
      (sym (ap is_some c.label_of.ensures) ∙ c.is_none.ensures ∙ ap not w.if-is_none.true) w.in_ok-add.ensures.added c.loop-at.invariant
  | else-is_none w ↦ w.others-is ∙ unowned-old (owner_in c.args.labels.now) c.args.objects.now c.loop-at.at c.loop-at.others c.loop-at-test.true
      (sym (ap is_some c.label_of.ensures) ∙ c.is_none.ensures ∙ ap not w.if-is_none.false) c.loop-at.invariant
]
