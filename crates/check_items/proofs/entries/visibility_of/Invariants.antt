use Rattle.std.proofs.Common.{◌≡◌, drop}
use Rattle.check_items.specs.Entries.{visibility_of}
use Rattle.check_items.proofs.entries.visibility_of.Given as goal

abbrev pub invariant-loop-attach : goal.invariant-loop-attach
invariant-loop-attach l = visibility_of l.context.units (drop l.attach-index l.attached) ≡ visibility_of l.context.units l.attached
