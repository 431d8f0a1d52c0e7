use Rattle.bench_layout.specs.Ids.{AreIds}
use Rattle.bench_layout.proofs.ids.pairs_of_pairs.Given as goal

abbrev pub invariant-loop-level : goal.invariant-loop-level
invariant-loop-level l = AreIds l.count l.ids
