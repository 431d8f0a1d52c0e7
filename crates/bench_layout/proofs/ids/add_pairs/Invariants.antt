use Rattle.bench_layout.specs.Ids.{AreIds}
use Rattle.bench_layout.proofs.ids.add_pairs.Given as goal

abbrev pub invariant-loop-more : goal.invariant-loop-more
invariant-loop-more l = AreIds l.count l.ids
