use Rattle.std.proofs.Common.{take}
use Rattle.std.specs.List.{All}
use Rattle.thin_files.specs.Thin.{IsNodeNumber}
use Rattle.thin_files.proofs.thin.rules.are_node_numbers.Given as goal

abbrev pub invariant-loop-node : goal.invariant-loop-node
invariant-loop-node l = All (λ n. IsNodeNumber n.number) (take l.node-index l.nodes)
