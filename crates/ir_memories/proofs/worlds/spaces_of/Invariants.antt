use Rattle.std.proofs.Common.{◌≡◌, ◌+◌, ◌++◌, drop}
use Rattle.ir_memories.specs.Worlds.{spaces_from}
use Rattle.ir_memories.proofs.worlds.spaces_of.Given as goal

abbrev pub invariant-loop-at : goal.invariant-loop-at
invariant-loop-at l = l.spaces ++ spaces_from l.items (l.at + 1) (drop l.at l.modules) ≡ spaces_from l.items 1 l.modules
