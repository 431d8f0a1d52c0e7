use Rattle.std.proofs.Common.{IsTrue, ◌↔◌, IfOk, subst, ◌∙◌}
use Rattle.thin_files.specs.Thin.{AreDistinct}
use Rattle.thin_files.proofs.thin.allowed.are_globals_distinct.Goals as goal

pub returns : goal.returns
returns c = subst (λ names. IfOk c.are_distinct.result (λ distinct. IsTrue distinct ↔ AreDistinct names))
    (c.items.ensures ∙ c.in_ok-names.ensures) c.are_distinct.ensures
