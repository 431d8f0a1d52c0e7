use Rattle.std.proofs.Common.{◌≡◌}
use Rattle.check_bodies.specs.Standing.{standing}
use Rattle.check_items.specs.Counts.{counts_before}
use Rattle.ir_check.specs.Answers.{IsCleanTo}
use Rattle.ir_check.specs.Walk.{IsHeadOf}
use Rattle.ir_check.proofs.check.first_flaw.Given as goal

abbrev pub invariant-loop-at : goal.invariant-loop-at
invariant-loop-at l =
    (l.units ≡ l.fn.types.units)
    × (l.body.units ≡ l.units)
    × (l.standing ≡ standing l.units l.at)
    × IsHeadOf l.standing l.body.head
    × (l.so_far ≡ counts_before l.units l.at)
    × IsCleanTo l.fn.types.output l.units l.at
