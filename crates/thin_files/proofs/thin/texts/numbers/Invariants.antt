use Rattle.std.proofs.Common.{◌≡◌, map, take}
use Rattle.thin_files.proofs.thin.texts.numbers.Given as goal

abbrev pub invariant-loop-node : goal.invariant-loop-node
invariant-loop-node l = l.numbers ≡ map (λ n. n.number) (take l.node-index l.nodes)
