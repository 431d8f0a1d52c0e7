use Rattle.std.proofs.Common.{◌≡◌, [], drop}
use Rattle.ir_meaning.specs.Calls.{bound}
use Rattle.ir_meaning.proofs.calls.bound.Given as goal

abbrev pub invariant-loop-at : goal.invariant-loop-at
invariant-loop-at g l = bound l.registers (drop l.at l.names) (drop l.at l.args) ≡ bound [] l.names l.args
