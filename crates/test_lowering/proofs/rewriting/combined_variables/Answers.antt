use Rattle.std.proofs.Common.{◌≡◌, ◌∙◌, sym, ap, List, [], ◌∷◌, ◌++◌}
use Rattle.ir_values.specs.declared.modules.Var.{Var}
use Rattle.thin_files.specs.Thin.{variable_of}
use Rattle.test_lowering.specs.Rewriting.{combined}
use Rattle.test_lowering.proofs.RewritingLaws.{combined-next}
use Rattle.test_lowering.proofs.rewriting.combined_variables.Goals as goal

pub loop-group-preserved : goal.loop-group-preserved
loop-group-preserved c =
    c.in-Ok.ensures.added
    ∙ ap (λ (made : Var). c.loop-group.list ++ made ∷ []) c.in_ok-combined.ensures
    ∙ ap (λ (list : List Var). list ++ combined c.loop-group.group (variable_of c.index-variables-group.result) ∷ []) c.loop-group.invariant
    ∙ sym (combined-next c.args.variables.now c.loop-group.group c.index-variables-group.result c.loop-group-test.true c.index-variables-group.is)
