use Rattle.std.proofs.Common.{take}
use Rattle.std.specs.List.{All, Contains}
use Rattle.thin_files.proofs.thin.texts.are_among.Given as goal

abbrev pub invariant-loop-node : goal.invariant-loop-node
invariant-loop-node l = All (λ n. Contains l.numbers n.number) (take l.node-index l.nodes)
