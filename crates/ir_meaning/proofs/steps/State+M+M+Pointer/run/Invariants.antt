use Rattle.std.proofs.Common.{◌≡◌}
use Rattle.ir_meaning.specs.Steps.{run}
use Rattle.ir_meaning.proofs.steps.State+M+M+Pointer.run.Given as goal

abbrev pub invariant-loop : goal.invariant-loop
invariant-loop g l = l.self ≡ run g.M.Memory.model l.modules l.answers l.counter l.fn.self
