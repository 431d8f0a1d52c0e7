use Rattle.std.proofs.Common.{◌≡◌, drop}
use Rattle.ir_meaning.specs.Starts.{fit}
use Rattle.ir_meaning.proofs.starts.fit.Given as goal

abbrev pub invariant-loop-at : goal.invariant-loop-at
invariant-loop-at l = fit (drop l.at l.tys) (drop l.at l.args) ≡ fit l.tys l.args
