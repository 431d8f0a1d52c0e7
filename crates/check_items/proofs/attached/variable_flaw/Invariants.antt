use Rattle.std.proofs.Common.{◌≡◌, drop, Some}
use Rattle.check_names.specs.Flaws.{each}
use Rattle.check_items.specs.Attached.{attachment_flaw}
use Rattle.check_items.proofs.attached.variable_flaw.Given as goal

abbrev pub invariant-loop-at : goal.invariant-loop-at
invariant-loop-at l = l.flaw ≡ each (attachment_flaw l.types.output l.types.units (Some l.ty)) (drop l.at l.attached)
