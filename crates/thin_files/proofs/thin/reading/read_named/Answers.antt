use Rattle.std.proofs.Common.{◌≡◌, List, map, IfOk, MatchOption, subst}
use Rattle.std.specs.List.{All, Contains}
use Rattle.thin_files.specs.declared.thin.Variable.{Variable}
use Rattle.thin_files.specs.Thin.{variable_form, node_of}
use Rattle.thin_files.specs.Shape.{forms, AreVariables}
use Rattle.thin_files.proofs.thin.reading.read_named.Goals as goal

pub returns : goal.returns
returns c = subst
    (λ nodes. (variables : List Variable) → forms c.args.units.now ≡ map variable_form variables →
    All (λ v. Contains nodes (node_of v)) variables → ⊥)
    c.new-nodes.ensures (rw c.in-None.is at c.in_ok-variables.ensures)
