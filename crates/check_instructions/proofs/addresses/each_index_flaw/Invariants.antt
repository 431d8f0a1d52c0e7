use Rattle.std.proofs.Common.{◌≡◌, drop}
use Rattle.check_names.specs.Flaws.{each}
use Rattle.check_instructions.specs.Addresses.{index_flaw}
use Rattle.check_instructions.proofs.addresses.each_index_flaw.Given as goal

abbrev pub invariant-loop-at : goal.invariant-loop-at
invariant-loop-at l = l.flaw ≡ each (index_flaw l.types.output l.types.units l.body.head) (drop l.at l.index)
