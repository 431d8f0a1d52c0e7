use Rattle.std.proofs.Common.{◌∙◌, sym, subst, List, ◌∷◌, [], ℕ, replicate}
use Rattle.std.specs.Prelude.{All}
use Rattle.global_layout.specs.declared.ids.Shape.{Shape}
use Rattle.global_layout.specs.Layout.{IsId}
use Rattle.global_layout.proofs.ExampleLemmas.{first-each}
use Rattle.told_texts.proofs.layouts.one_id.Goals as goal

pub arrange-requires-clause-ids : goal.arrange-requires-clause-ids
arrange-requires-clause-ids c =
    subst (λ (shapes : List Shape). All (IsId shapes) (record { members = c.in_ok-members.members } ∷ [])) (sym (c.items.ensures ∙ c.in_ok-shapes.ensures))
    (subst (λ (objects : List ℕ). All (IsId (replicate c.args.count c.args.shape)) (record { members = objects } ∷ [])) (sym c.in_ok-members.ensures)
    (first-each c.args.shape c.args.count c.requires.some))
