use Rattle.std.proofs.Common.{arith, rules}
use Rattle.thin_files.specs.Thin.{IsNodeNumber}
use Rattle.thin_files.proofs.Lists.{all_more, all_items}
use Rattle.thin_files.proofs.thin.rules.are_node_numbers.Goals as goal

pub loop-node-preserved : goal.loop-node-preserved
loop-node-preserved c = all_more (λ n. IsNodeNumber n.number) _ _ c.node-item.result c.loop-node-test.true c.node-item.is
    c.loop-node.invariant (search rules)

pub returns : goal.returns
returns c = all_items (λ n. IsNodeNumber n.number) _ _ (omega arith) c.loop-node.invariant
