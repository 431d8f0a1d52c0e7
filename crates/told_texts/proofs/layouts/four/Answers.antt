use Rattle.std.proofs.Common.{◌∙◌, refl, sym, subst, List, ◌∷◌, []}
use Rattle.std.specs.Prelude.{All}
use Rattle.global_layout.specs.declared.ids.IdMembers.{IdMembers}
use Rattle.global_layout.specs.declared.ids.Shape.{Shape}
use Rattle.global_layout.specs.Layout.{IsId}
use Rattle.global_layout.proofs.ExampleLemmas.{example-is, four-alike}
use Rattle.told_texts.proofs.layouts.four.Goals as goal

pub arrange-requires-clause-ids : goal.arrange-requires-clause-ids
arrange-requires-clause-ids c =
    let shape : Shape = c.args.shape in
    let shapes : List Shape = shape ∷ shape ∷ shape ∷ shape ∷ [] in
    subst (λ (ids : List IdMembers). All (IsId shapes) ids) (sym (c.items.ensures ∙ c.in_ok-ids.ensures))
    (example-is shapes shape.function refl (four-alike shape))
