use Rattle.std.proofs.Common.{◌≡◌, drop}
use Rattle.check_names.specs.Flaws.{each}
use Rattle.check_items.specs.Attached.{output_flaw}
use Rattle.check_items.proofs.attached.outputs_flaw.Given as goal

abbrev pub invariant-loop-at : goal.invariant-loop-at
invariant-loop-at l = l.flaw ≡ each output_flaw (drop l.at l.attached)
