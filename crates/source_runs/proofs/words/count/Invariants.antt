use Rattle.std.proofs.Common.{◌≡◌, ◌≤◌, ◌+◌, ◌-◌, length}
use Rattle.source_runs.specs.Words.{count_behind, words_of}
use Rattle.source_runs.proofs.WordLemmas.{words_from}
use Rattle.source_runs.proofs.words.count.Given as goal

abbrev pub invariant-loop-start : goal.invariant-loop-start
invariant-loop-start l = (l.start ≤ length l.text + 1) × (l.count ≤ l.start)
    × (count_behind l.count (words_from l.start l.text) ≡ count_behind 0 (words_of l.text))

abbrev pub decreases-loop-start : goal.decreases-loop-start
decreases-loop-start l = length l.text + 1 - l.start
