use Rattle.std.proofs.Common.{◌∙◌}
use Rattle.type_metadata.specs.Denoted.{is_called}
use Rattle.type_metadata.proofs.DenotedLaws.{loop_found, loop_missed}
use Rattle.type_metadata.proofs.denoting.first_in.Goals as goal

pub returns-in-Some : goal.returns-in-Some
returns-in-Some c =
    loop_found (is_called c.args.linkage c.args.name.now) c.args.modules.now c.loop-at.at c.index-modules-at.result c.in-Some.object
    c.loop-at-test.true c.index-modules-at.is c.in-Some.ensures ∙ c.loop-at.invariant

pub loop-at-preserved : goal.loop-at-preserved
loop-at-preserved c =
    loop_missed (is_called c.args.linkage c.args.name.now) c.args.modules.now c.loop-at.at c.index-modules-at.result
    c.loop-at-test.true c.index-modules-at.is c.in-None.ensures ∙ c.loop-at.invariant
