use Rattle.std.proofs.Common.{◌≡◌, drop}
use Rattle.check_names.specs.Flaws.{each}
use Rattle.check_instructions.specs.Cases.{case_flaw}
use Rattle.check_instructions.proofs.cases.each_case_flaw.Given as goal

abbrev pub invariant-loop-at : goal.invariant-loop-at
invariant-loop-at l = l.flaw ≡ each (case_flaw l.types.output l.types.units l.body.head l.ty) (drop l.at l.cases)
