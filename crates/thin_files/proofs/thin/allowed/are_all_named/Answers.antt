use Rattle.std.proofs.Common.{IsTrue, ◌↔◌, IfOk, subst, ◌∙◌}
use Rattle.std.specs.List.{All, Contains}
use Rattle.thin_files.proofs.thin.allowed.are_all_named.Goals as goal

pub returns : goal.returns
returns c = subst
    (λ numbers. IfOk c.are_among.result (λ among. IsTrue among ↔ All (λ n. Contains numbers n.number) c.args.nodes.now))
    (c.items.ensures ∙ c.in_ok-numbers.ensures) c.are_among.ensures
