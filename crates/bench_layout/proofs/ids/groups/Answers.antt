use Rattle.std.proofs.Common.{List, sym, subst, ◌∙◌}
use Rattle.std.specs.Prelude.{All}
use Rattle.global_layout.specs.declared.ids.Shape.{Shape}
use Rattle.global_layout.specs.Layout.{IsShape}
use Rattle.bench_layout.proofs.IdLemmas.{words_fit}
use Rattle.bench_layout.proofs.ids.groups.Goals as goal

pub arrange-requires-clause-shapes : goal.arrange-requires-clause-shapes
arrange-requires-clause-shapes c =
    subst (λ (shapes : List Shape). All IsShape shapes) (sym (c.items-2.ensures ∙ c.in_ok-shapes.ensures)) (words_fit c.args.count)
