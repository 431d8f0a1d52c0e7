use Rattle.std.proofs.Common.{sym, ◌∙◌}
use Rattle.thin_files.specs.Thin.{node_of}
use Rattle.thin_files.proofs.Units.{variable_unit-same}
use Rattle.thin_files.proofs.thin.variables.read_variable.Goals as goal

pub returns-in-None-find : goal.returns-in-None-find
returns-in-None-find c = λ v same inside.
    let parts = variable_unit-same v.name _ v.count _ v.node _ (sym same ∙ c.in-Some.ensures) in
    c.in-None-find.ensures (node_of v) inside (parts.2 ∙ sym c.bytes.ensures)
