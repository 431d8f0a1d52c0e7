use Rattle.std.proofs.Common.{◌≡◌, drop}
use Rattle.check_names.specs.Flaws.{each}
use Rattle.check_calls.specs.Arguments.{word_flaw}
use Rattle.check_calls.proofs.arguments.each_word_flaw.Given as goal

abbrev pub invariant-loop-at : goal.invariant-loop-at
invariant-loop-at l = l.flaw ≡ each word_flaw (drop l.at l.words)
