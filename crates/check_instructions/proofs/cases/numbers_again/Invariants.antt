use Rattle.std.proofs.Common.{◌≡◌, drop}
use Rattle.check_instructions.specs.Cases.{again_from}
use Rattle.check_instructions.proofs.cases.numbers_again.Given as goal

abbrev pub invariant-loop-at : goal.invariant-loop-at
invariant-loop-at l = l.flaw ≡ again_from l.width l.numbers l.at (drop l.at l.numbers)
