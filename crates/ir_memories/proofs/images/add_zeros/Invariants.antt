use Rattle.std.proofs.Common.{◌≡◌, ◌++◌}
use Rattle.ir_memories.specs.Images.{zeros}
use Rattle.ir_memories.proofs.images.add_zeros.Given as goal

abbrev pub invariant-loop-added : goal.invariant-loop-added
invariant-loop-added l = l.cells ≡ l.initial.cells ++ zeros l._added
