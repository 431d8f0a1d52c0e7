use Rattle.std.proofs.Common.{◌≡◌, replicate}
use Rattle.bench_layout.specs.Ids.{word}
use Rattle.bench_layout.proofs.ids.words.Given as goal

abbrev pub invariant-loop-object : goal.invariant-loop-object
invariant-loop-object l = l.shapes ≡ replicate l._object word
