use Rattle.std.proofs.Common.{◌≡◌, drop}
use Rattle.check_names.specs.Flaws.{each}
use Rattle.check_instructions.specs.Phis.{arm_flaw}
use Rattle.check_instructions.proofs.phis.each_arm_flaw.Given as goal

abbrev pub invariant-loop-at : goal.invariant-loop-at
invariant-loop-at l = l.flaw ≡ each (arm_flaw l.types.output l.types.units l.body.head l.ty) (drop l.at l.arms)
