use Rattle.std.proofs.Common.{rules}
use Rattle.std.specs.Prelude.{Contains}
use Rattle.thin_files.specs.Thin.{variable_form, node_of}
use Rattle.thin_files.proofs.Lists.{no_match_among}
use Rattle.thin_files.proofs.Variables.{AreVariables-more}
use Rattle.thin_files.proofs.thin.variables.read_variables.Goals as goal

pub returns-in-None : goal.returns-in-None
returns-in-None c = no_match_among (λ u. u.value.form) variable_form (λ v. Contains c.args.nodes.now (node_of v)) _ _ _
    c.loop-unit-test.true c.unit-item.is (search rules)

pub loop-unit-preserved : goal.loop-unit-preserved
loop-unit-preserved c = AreVariables-more _ _ _ c.unit-item.result _ _ c.in-Some.variable c.loop-unit-test.true c.unit-item.is
    c.loop-unit.invariant (search rules) (search rules) (search rules) (search rules)
