use Rattle.std.proofs.Common.{◌∙◌, ap, ◌++◌, ◌∷◌, [], List, ℕ}
use Rattle.global_layout.proofs.ExampleLemmas.{first-more}
use Rattle.told_texts.proofs.layouts.first_objects.Goals as goal

pub loop-object-preserved : goal.loop-object-preserved
loop-object-preserved c =
    let object = c.loop-object.object in
    c.in_ok-add.ensures.added ∙ ap (λ (objects : List ℕ). objects ++ object ∷ []) c.loop-object.invariant ∙ first-more object
