use Rattle.std.proofs.Common.{◌≡◌, ◌+◌, drop}
use Rattle.source_runs.specs.Words.{first_end}
use Rattle.source_runs.proofs.words.first_end.Given as goal

abbrev pub invariant-loop-at : goal.invariant-loop-at
invariant-loop-at l = l.at + first_end (drop l.at l.text) ≡ first_end l.text
