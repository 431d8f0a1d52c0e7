use Rattle.std.proofs.Common.{◌≡◌, [], drop}
use Rattle.ir_meaning.specs.Calls.{values}
use Rattle.ir_meaning.proofs.calls.values.Given as goal

abbrev pub invariant-loop-at : goal.invariant-loop-at
invariant-loop-at g l = values g.M.Memory.model l.memory l.frame l.done (drop l.at l.operands) ≡ values g.M.Memory.model l.memory l.frame [] l.operands
