use Rattle.std.proofs.Common.{◌≡◌, ◌++◌, length}
use Rattle.std.specs.Map.{values_of}
use Rattle.global_layout.proofs.fragments.listed.Given as goal

abbrev pub invariant-loop-touched : goal.invariant-loop-touched
invariant-loop-touched l = l.untouched ++ values_of l.live.entries ≡ values_of l.fn.live.entries

abbrev pub decreases-loop-touched : goal.decreases-loop-touched
decreases-loop-touched l = length l.live.entries
