use Rattle.std.proofs.Common.{◌≡◌, drop}
use Rattle.ir_meaning.specs.Branches.{arm_of}
use Rattle.ir_meaning.proofs.branches.arm_of.Given as goal

abbrev pub invariant-loop-at : goal.invariant-loop-at
invariant-loop-at l = arm_of (drop l.at l.arms) l.label ≡ arm_of l.arms l.label
