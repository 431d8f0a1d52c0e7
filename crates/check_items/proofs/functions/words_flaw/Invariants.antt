use Rattle.std.proofs.Common.{◌≡◌, drop}
use Rattle.check_items.specs.Functions.{words_flaw}
use Rattle.check_items.proofs.functions.words_flaw.Given as goal

abbrev pub invariant-loop-at : goal.invariant-loop-at
invariant-loop-at l = l.flaw ≡ words_flaw (drop l.at l.words)
