use Rattle.std.proofs.Common.{◌≡◌, drop, []}
use Rattle.ir_meaning.specs.Starts.{parameters}
use Rattle.ir_meaning.proofs.starts.parameters.Given as goal

abbrev pub invariant-loop-at : goal.invariant-loop-at
invariant-loop-at g l = parameters l.registers (drop l.at l.names) (drop l.at l.tys) (drop l.at l.args) ≡ parameters [] l.names l.tys l.args
