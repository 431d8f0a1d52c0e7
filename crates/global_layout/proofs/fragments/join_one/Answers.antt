use Rattle.std.proofs.Common.{ℕ, List, ◌∙◌, sym, ap, subst, Some}
use Rattle.global_layout.specs.Owners.{owner_in, AreLabelled}
use Rattle.global_layout.proofs.LabelLaws.{labelled-more, named-found, ok-both}
use Rattle.global_layout.proofs.fragments.join_one.Goals as goal

pub returns-in-Some-clause-labels : goal.returns-in-Some-clause-labels
returns-in-Some-clause-labels c =
    ok-both c.merged.result c.merged.ensures.objects c.merged.ensures.labels (λ both objects merged before named so_far.
    subst (λ (os : List ℕ). AreLabelled before os both.label (owner_in c.merged.new.labels.items)) (sym objects)
    (labelled-more before (owner_in c.args.labels.now.items) (owner_in c.merged.new.labels.items) c.args.joint.objects c.in-Some.objects
    c.args.joint.label _ both.label
    (λ o among. named-found c.args.number c.args.live.now.entries before c.args.names.now c.in-Some.objects named c.in-Some.ensures.value o among
    ∙ ap Some (sym c.at_or_zero-label.ensures)) so_far merged))
