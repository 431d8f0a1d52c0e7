use Rattle.std.proofs.Common.{arith, rules}
use Rattle.thin_files.specs.Rules.{IsSound}
use Rattle.thin_files.proofs.Lists.{all_more, all_items}
use Rattle.thin_files.proofs.thin.rules.are_sound.Goals as goal

pub loop-variable-preserved : goal.loop-variable-preserved
loop-variable-preserved c = all_more IsSound _ _ c.variable-item.result c.loop-variable-test.true c.variable-item.is
    c.loop-variable.invariant (search rules)

pub returns : goal.returns
returns c = all_items IsSound _ _ (omega arith) c.loop-variable.invariant
