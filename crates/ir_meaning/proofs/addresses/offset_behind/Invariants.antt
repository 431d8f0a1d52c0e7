use Rattle.std.proofs.Common.{◌≡◌, drop}
use Rattle.ir_meaning.specs.Addresses.{offset_behind}
use Rattle.ir_meaning.proofs.addresses.offset_behind.Given as goal

abbrev pub invariant-loop-at : goal.invariant-loop-at
invariant-loop-at g l = offset_behind g.M.Memory.model l.memory l.frame l.sum l.ty (drop l.at l.indices) ≡ offset_behind g.M.Memory.model l.memory l.frame l.first l.whole l.indices
