use Rattle.bench_layout.specs.Ids.{AreIds}
use Rattle.bench_layout.proofs.ids.chain.Given as goal

abbrev pub invariant-loop-object : goal.invariant-loop-object
invariant-loop-object l = AreIds l.count l.ids
