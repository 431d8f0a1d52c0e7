use Rattle.bench_layout.specs.Ids.{AreIds}
use Rattle.bench_layout.proofs.ids.random_ids.Given as goal

abbrev pub invariant-loop-id : goal.invariant-loop-id
invariant-loop-id l = AreIds l.count l.ids
