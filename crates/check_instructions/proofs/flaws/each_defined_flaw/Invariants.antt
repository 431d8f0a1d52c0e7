use Rattle.std.proofs.Common.{◌≡◌, drop}
use Rattle.check_names.specs.Flaws.{each}
use Rattle.check_instructions.specs.Instructions.{defined_flaw}
use Rattle.check_instructions.proofs.flaws.each_defined_flaw.Given as goal

abbrev pub invariant-loop-at : goal.invariant-loop-at
invariant-loop-at l = l.flaw ≡ each (defined_flaw l.types.output) (drop l.at l.own)
