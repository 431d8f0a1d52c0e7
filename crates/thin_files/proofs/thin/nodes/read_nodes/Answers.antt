use Rattle.std.proofs.Common.{rules}
use Rattle.thin_files.specs.Thin.{node_form}
use Rattle.thin_files.proofs.Lists.{no_match}
use Rattle.thin_files.proofs.thin.nodes.read_nodes.Goals as goal

pub returns-in-None : goal.returns-in-None
returns-in-None c = no_match (λ u. u.value.form) node_form _ _ _ c.loop-unit-test.true c.unit-item.is (search rules)
