use Rattle.std.proofs.Common.{◌≡◌, drop}
use Rattle.ir_meaning.specs.Branches.{phis}
use Rattle.ir_meaning.proofs.branches.phis.Given as goal

abbrev pub invariant-loop-at : goal.invariant-loop-at
invariant-loop-at g l = phis g.M.Memory.model l.memory l.frame l.label l.registers l.at (drop l.at l.insts) ≡ phis g.M.Memory.model l.memory l.frame l.label l.frame.registers 0 l.insts
