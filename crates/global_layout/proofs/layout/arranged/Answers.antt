use Rattle.std.proofs.Common.{◌<◌, ◌∙◌, sym, subst, length, List, ℕ}
use Rattle.std.specs.Prelude.{All}
use Rattle.global_layout.proofs.WithinLemmas.{fragments-within}
use Rattle.global_layout.proofs.layout.arranged.Goals as goal

pub placed_in-requires : goal.placed_in-requires
placed_in-requires c = record {
  shapes = c.requires.shapes;
  within = subst (λ (fragments : List (List ℕ)). All (All (λ object. object < length c.args.shapes.now)) fragments)
      (sym (c.items.ensures ∙ c.in_ok-fragments.ensures)) (fragments-within c.args.ids.now c.args.shapes.now c.requires.ids);
}
